-- Polls keep it that no channel is rolled back which a side announced and that is not negotiated out-of-band, or that the side of its stream alone announced
-- one over a generation of it.
use Rattle.std.proofs.Common.{◌≡◌, ◌∙◌, ◌⊎◌, inl, inr, ◌<◌, ◌≤◌, ◌++◌, ◌∷◌, ◌%◌, ◌==◌, ℕ, Bool, true, false, true≢false, List, [], Option, Some, Result, Ok, Err, refl, sym, ap, subst, arith}
use Rattle.std.specs.Prelude.{nat_lt}
use Rattle.std.proofs.lemmas.Bool.{eqb-true, eqb-false}
use Rattle.rtc_assoc_state.specs.PlainMeaning.{plain_meaning}
use Rattle.rtc_parts.specs.Draws.{Draws}
use Rattle.rtc_plain_media.specs.declared.plain_media_event.PlainMediaEvent.{PlainMediaEvent}
use Rattle.rtc_peer_core.specs.declared.phase.Phase.TheVariants.{Closed}
use Rattle.rtc_peer_core.specs.declared.rtc_error.RtcError.{RtcError}
use Rattle.rtc_peer_transport.specs.ChannelCalls.{stream_under}
use Rattle.rtc_peer_transport.specs.declared.event.Event.TheVariants.{ChannelOpen, ChannelData}
use Rattle.rtc_peer_transport.specs.declared.output.Output.{Output}
use Rattle.rtc_peer_transport.specs.declared.output.Output.TheVariants as outputs
use Rattle.rtc_peer_polling.specs.StreamStages.{channel_over}
use Rattle.rtc_peer_polling.specs.Walk.{PollsPeer}
use Rattle.rtc_peer_laws.specs.PeerActs.{PeerActs}
use Rattle.rtc_peer_laws.specs.RowsChanged.{RowsChanged}
use Rattle.rtc_peer_laws.proofs.ActedPolls.{poll_acts}
use Rattle.rtc_run_history.specs.declared.kept.Kept.{Kept}
use Rattle.rtc_run_history.specs.declared.side.Side.{Side}
use Rattle.rtc_run_laws.specs.ChannelUses.{ChannelUse, announced_use, generation_under}
use Rattle.rtc_run_laws.specs.OwnOpenings.{IsOfSide}
use Rattle.rtc_run_laws.specs.PlainPairs.{PlainPolled, plain_over}
use Rattle.rtc_run_laws.specs.ToldMessages.{MessagesTold}
use Rattle.rtc_run_history.specs.declared.sent_packet.SentPacket.{SentPacket}
use Rattle.rtc_peer_laws.specs.Acts.{PollActs}
use Rattle.rtc_sctp_laws.specs.StreamUses.{any_dcep, messages_of}
use Rattle.rtc_run_laws.proofs.AnnouncedStreams.{HasUseOver, IsUseOver, over_answered, over_last, uses_answered}
use Rattle.rtc_run_laws.proofs.OpeningFacts.{facts, over_is, placed}
use Rattle.rtc_run_laws.proofs.OwnedRows.{HasOwner, IsOwner}
use Rattle.rtc_run_laws.proofs.PolledUses.{IsGood, Lives, PollsKeep}
use Rattle.rtc_run_laws.proofs.RowLemmas.{over_below}
use Rattle.rtc_run_laws.proofs.ReadOpenings.{NotFull, full_before, reads_written, use_read}
use Rattle.rtc_run_laws.proofs.StandingSides.{Sent, SideStood, Stood}
use Rattle.rtc_run_laws.proofs.StayingStreams.{HasRowOf, announced_stays}
use Rattle.rtc_run_laws.proofs.StepRows.{poll_rows}
use Rattle.rtc_run_laws.proofs.StepsExchange.{plain_over_laws}
use Rattle.rtc_run_laws.proofs.SureNumbers.{IsSureNumber, changed_sure, row_over, sure_over}
use Rattle.rtc_run_laws.proofs.UseLists.{AllUses, all_got, all_kept, all_more}
use Rattle.rtc_channels.specs.Ids.{parity_of}
use Rattle.rtc_run_laws.proofs.NoneAnnounced.{AreNoneOver, none_over}
use Rattle.rtc_run_laws.proofs.NumberedTokens.{AreKeptSo, AreKeptWith, kept_map, kept_with_map}
use Rattle.rtc_run_laws.proofs.OwnNegotiation.{IsAdded}
use Rattle.rtc_run_laws.proofs.OwnNumbers.{AreOwnOf, added_own}
use Rattle.rtc_run_laws.proofs.OwnTokens.{step_number}
use Rattle.rtc_run_laws.proofs.OwnedRuns.{lived_before}
use Rattle.rtc_run_laws.proofs.UnsettledRows.{token_unsettled}

some_is : (a b : ℕ) → Some a ≡ Some b → a ≡ b
some_is a b h = cc

-- a stream is of a side, or not
pub side_or : (c : Bool) (s : ℕ) → IsOfSide c s ⊎ (IsOfSide c s → ⊥)
side_or c s = by (s % 2 == parity_of c) refl
  where
    by : (d : Bool) → (s % 2 == parity_of c) ≡ d → IsOfSide c s ⊎ (IsOfSide c s → ⊥)
    by true e = inl (eqb-true (s % 2) (parity_of c) e)
    by false e = inr (eqb-false (s % 2) (parity_of c) e)

module _ {N : Type 0} (draws : Draws N) (s g : ℕ) (at : Side) (b : PeerActs) (other : PlainPolled N) (sent : Sent) (c : Bool) where
  -- A rollback leaves the channel of a use: its row was confirmed, or it is of no token that the side keeps. So it is over a stream of this side, and of a
  -- channel that is not negotiated out-of-band.
  abbrev pub IsSafe : (sdps : List Kept) → PlainPolled N → ChannelUse → Type 0
  IsSafe sdps p x =
      x.in_band ≡ true
      → x.stream ≡ Some s
      → x.generation ≡ g
      → IsOfSide c s ⊎ (x.negotiated ≡ false)
      → (x.rolled_back ≡ false)
      × (IsSureNumber x.channel p.core.channels ⊎ ((x.channel < p.core.channels.given) × AreKeptSo at (λ k. k ≡ x.channel → ⊥) sdps))

  module _ (sdps : List Kept) (bound : ℕ) (tokens : AreKeptSo at (λ k. k < bound) sdps) (vs : List ChannelUse) (rest : SideStood draws b vs other) where
    -- over a stream of this side it alone announced one
    abbrev pub IsBad : List ChannelUse → Type 0
    IsBad uses = IsOfSide c s × HasUseOver s (Some g) uses × AreNoneOver s g vs

    abbrev pub AreAddedAt : PlainPolled N → Type 0
    AreAddedAt p = AreKeptWith at (IsAdded (plain_over draws) c p.core) sdps

    abbrev pub OwnerKeeps : PlainPolled N → List ChannelUse → Type 0
    OwnerKeeps p uses =
        NotFull draws s p → (bound ≤ p.core.channels.given) × AreAddedAt p × (AllUses (IsSafe sdps p) uses ⊎ IsBad uses)

    sure_on : (n : ℕ) (p : PlainPolled N) (answer : Result (Output PlainMediaEvent) RtcError) (q : PlainPolled N)
        → PollsPeer (plain_over draws) p answer q → Lives draws at b other sent c q → IsSureNumber n p.core.channels → IsSureNumber n q.core.channels
    sure_on n p answer q h lives sure = by (poll_rows (plain_over draws) (plain_over_laws draws) p answer q h).changed
      where
        by : (q.core.phase ≡ Closed) ⊎ RowsChanged plain_meaning p.core.channels p.core.sctp q.core.channels q.core.sctp → IsSureNumber n q.core.channels
        by (inl closed) = absurd (lives.lives closed)
        by (inr changed) = changed_sure n plain_meaning p.core.channels p.core.sctp q.core.channels q.core.sctp changed sure

    safe_on : (p : PlainPolled N) (answer : Result (Output PlainMediaEvent) RtcError) (q : PlainPolled N)
        → PollsPeer (plain_over draws) p answer q → Lives draws at b other sent c q → (x : ChannelUse) → IsSafe sdps p x → IsSafe sdps q x
    safe_on p answer q h lives x safe = λ band is own kind. ((safe band is own kind).0, by (safe band is own kind).1)
      where
        by : IsSureNumber x.channel p.core.channels ⊎ ((x.channel < p.core.channels.given) × AreKeptSo at (λ k. k ≡ x.channel → ⊥) sdps)
            → IsSureNumber x.channel q.core.channels ⊎ ((x.channel < q.core.channels.given) × AreKeptSo at (λ k. k ≡ x.channel → ⊥) sdps)
        by (inl sure) = inl (sure_on x.channel p answer q h lives sure)
        by (inr apart) =
            let up = (poll_rows (plain_over draws) (plain_over_laws draws) p answer q h).given in
            let low = apart.0 in inr (omega (arith, up, low), apart.1)

    added_on : (p : PlainPolled N) (answer : Result (Output PlainMediaEvent) RtcError) (q : PlainPolled N)
        → PollsPeer (plain_over draws) p answer q → Lives draws at b other sent c q → AreAddedAt p → AreAddedAt q
    added_on p answer q h lives added =
        kept_with_map at (IsAdded (plain_over draws) c p.core) (IsAdded (plain_over draws) c q.core) sdps
        (λ n config k.
        step_number (plain_over draws) (plain_over_laws draws) c n config p q (inl (poll_rows (plain_over draws) (plain_over_laws draws) p answer q h)) lives
        k)
        added

    -- a channel is announced
    module _ (p : PlainPolled N) (id : ℕ) (label : List ℕ) (q : PlainPolled N) (packets : List SentPacket) (uses : List ChannelUse) (told : MessagesTold)
        (h : PollsPeer (plain_over draws) p (Ok (outputs.Event (ChannelOpen id label))) q) (lives : Lives draws at b other sent c q)
        (good : IsGood draws at b other sent c p) (stood : Stood draws at packets b other uses sent told p) (free : NotFull draws s p)
        (low : bound ≤ p.core.channels.given) (added : AreAddedAt q) (safe : AllUses (IsSafe sdps p) uses) where
      abbrev acts : PollActs (plain_over draws) p (Ok (outputs.Event (ChannelOpen id label))) q
      acts = poll_acts (plain_over draws) (plain_over_laws draws) p (Ok (outputs.Event (ChannelOpen id label))) q h

      abbrev x : ChannelUse
      x = announced_use (plain_over draws) id q

      abbrev Goes : Type 0
      Goes = AllUses (IsSafe sdps q) (uses ++ x ∷ []) ⊎ IsBad (uses ++ x ∷ [])

      lived : Lives draws at b other sent c p
      lived =
          lived_before (plain_over draws) (plain_over_laws draws) c p q
          (inl (poll_rows (plain_over draws) (plain_over_laws draws) p (Ok (outputs.Event (ChannelOpen id label))) q h)) lives

      under : stream_under id q.core.channels ≡ Some acts.streams.opens.stream
      under = placed draws s g at b other sent c p id label q packets uses told h lived good stood free

      before : AllUses (IsSafe sdps q) uses
      before = all_kept (IsSafe sdps p) (IsSafe sdps q) uses (λ y k. safe_on p (Ok (outputs.Event (ChannelOpen id label))) q h lives y k) safe

      safely : IsSafe sdps q x → Goes
      safely k = inl (all_more (IsSafe sdps q) uses x before k)

      numbered : id < q.core.channels.given
      numbered =
          over_below q.core.channels.given acts.streams.opens.stream id q.core.channels.rows (acts.numbers stood.side.told.numbers).1
          acts.streams.opens.over

      -- over a stream of the other side it is of no token
      module _ (foreign : IsOfSide c s → ⊥) where
        apart : x.stream ≡ Some s → x.negotiated ≡ false → AreKeptSo at (λ k. k ≡ id → ⊥) sdps
        apart is unsettled =
            kept_with_map at (IsAdded (plain_over draws) c q.core) (λ n config. n ≡ id → ⊥) sdps
            (λ n config k same.
            foreign
            (token_unsettled c id s q.core.channels.rows
            (subst (λ (i : ℕ). AreOwnOf c i q.core.channels.rows) same (added_own c n config q.core.channels k).rows)
            (row_over id s q.core.channels.rows
            (subst (λ (i : ℕ). channel_over i q.core.channels ≡ Some id) (some_is acts.streams.opens.stream s (sym under ∙ is)) acts.streams.opens.over))
            unsettled))
            added

        foreign_safe : Goes
        foreign_safe = safely (λ band is own kind. (refl, inr (numbered, by kind is)))
          where
            by : IsOfSide c s ⊎ (x.negotiated ≡ false) → x.stream ≡ Some s → AreKeptSo at (λ k. k ≡ id → ⊥) sdps
            by (inl own) is = absurd (foreign own)
            by (inr unsettled) is = apart is unsettled

      module _ (mine : IsOfSide c s) (over : IsUseOver s (Some g) x) where
        -- it is a channel that was there
        there : id < p.core.channels.given → Goes
        there less = each (facts draws s g at b other sent c p id label q packets uses told h lived good stood free over)
          where
            here : HasRowOf id s p.core.channels.rows
            here =
                announced_stays (plain_over draws) (plain_over_laws draws) p id label q h id s less
                (row_over id s q.core.channels.rows (over_is draws s g at b other sent c p id label q packets uses told h lived good stood free over))

            each : (HasOwner c s p.core.channels.rows × HasOwner c s q.core.channels.rows)
                ⊎ (any_dcep (messages_of s g stood.side.written) ≡ false) → Goes
            each (inl owner) =
                safely
                (λ band is own kind. (
                  refl,
                  inl
                      (sure_on id p (Ok (outputs.Event (ChannelOpen id label))) q h lives
                      (record {
                        below = less;
                        rows =
                            sure_over (IsOwner c s) id s 0 p.core.channels.rows (λ o d k. k.1) stood.side.told.numbers.0 stood.side.told.numbers.2 owner.0
                            here;
                      })),
                ))
            each (inr none) =
                inr (
                  mine,
                  over_last s (Some g) x uses over,
                  none_over s g vs
                      (λ k.
                      true≢false (sym (reads_written draws s g at packets b other uses vs sent told p stood rest (use_read draws s g b vs other rest k)) ∙ none)),
                )

        -- or its number is new
        by_number : (d : Bool) → nat_lt id p.core.channels.given ≡ d → Goes
        by_number true e = let less : id < p.core.channels.given = grind (arith, e) in there less
        by_number false e =
            let more : p.core.channels.given ≤ id = grind (arith, e) in
            safely
            (λ band is own kind. (
              refl,
              inr (numbered, kept_map at (λ k. k < bound) (λ k. k ≡ id → ⊥) sdps (λ k small same. omega (arith, small, same, more, low)) tokens),
            ))

      -- over another generation nothing is asked of it
      own_goes : IsOfSide c s → Goes
      own_goes mine =
          last x.in_band refl (acts.streams.opens.stream == s) refl (plain_meaning.generation q.core.sctp.association acts.streams.opens.stream == g) refl
        where
          generation_is : x.generation ≡ plain_meaning.generation q.core.sctp.association acts.streams.opens.stream
          generation_is = ap (λ (o : Option ℕ). generation_under (plain_over draws) o q) under

          last : (d : Bool) → x.in_band ≡ d → (e : Bool) → (acts.streams.opens.stream == s) ≡ e
              → (f : Bool) → (plain_meaning.generation q.core.sctp.association acts.streams.opens.stream == g) ≡ f → Goes
          last false band e is f own = safely (λ in_band stream generation kind. absurd (true≢false (sym in_band ∙ band)))
          last true band false is f own =
              safely
              (λ in_band stream generation kind.
              absurd (eqb-false acts.streams.opens.stream s is (some_is acts.streams.opens.stream s (sym under ∙ stream))))
          last true band true is false own =
              safely
              (λ in_band stream generation kind.
              absurd
              (eqb-false (plain_meaning.generation q.core.sctp.association acts.streams.opens.stream) g own (sym generation_is ∙ generation)))
          last true band true is true own =
              by_number mine (
                band,
                under ∙ ap (λ (n : ℕ). Some n) (eqb-true acts.streams.opens.stream s is),
                ap (λ (n : ℕ). Some n)
                    (sym (eqb-true (plain_meaning.generation q.core.sctp.association acts.streams.opens.stream) g own) ∙ sym generation_is),
              )
              (nat_lt id p.core.channels.given) refl

      pub announced_goes : Goes
      announced_goes = by (side_or c s)
        where
          by : IsOfSide c s ⊎ (IsOfSide c s → ⊥) → Goes
          by (inl mine) = own_goes mine
          by (inr foreign) = foreign_safe foreign

    pub owner_polled : PollsKeep draws at b other sent c OwnerKeeps
    owner_polled p answer q packets uses told h lives good after stood j = λ free.
        let acts = poll_acts (plain_over draws) (plain_over_laws draws) p answer q h in
        let free_then = full_before draws s p q acts.streams.given free in
        let was = j free_then in
        let low = was.0 in
        let up = acts.streams.given in
        let added = added_on p answer q h lives was.1 in
        (omega (arith, low, up), added, on answer h lives good stood free_then was.0 added was.2)
      where
        by : (answer : Result (Output PlainMediaEvent) RtcError) → PollsPeer (plain_over draws) p answer q → Lives draws at b other sent c q
            → IsGood draws at b other sent c p → Stood draws at packets b other uses sent told p → NotFull draws s p
            → bound ≤ p.core.channels.given → AreAddedAt q → AllUses (IsSafe sdps p) uses
            → AllUses (IsSafe sdps q) (uses_answered (plain_over draws) answer q uses) ⊎ IsBad (uses_answered (plain_over draws) answer q uses)
        by (Ok (outputs.Event (ChannelOpen id label))) h lives good stood free low added safe =
            announced_goes p id label q packets uses told h lives good stood free low added safe
        by (Ok (outputs.Event (ChannelData message))) h lives good stood free low added safe =
            inl
            (all_got (IsSafe sdps p) (IsSafe sdps q) message.id (message.binary, message.bytes) uses
            (λ y e k. safe_on p (Ok (outputs.Event (ChannelData message))) q h lives y k)
            (λ y e k. safe_on p (Ok (outputs.Event (ChannelData message))) q h lives y k) safe)
        by (Ok (outputs.Event event)) h lives good stood free low added safe =
            inl (all_kept (IsSafe sdps p) (IsSafe sdps q) uses (λ y k. safe_on p (Ok (outputs.Event event)) q h lives y k) safe)
        by (Ok (outputs.Transmit transmit)) h lives good stood free low added safe =
            inl (all_kept (IsSafe sdps p) (IsSafe sdps q) uses (λ y k. safe_on p (Ok (outputs.Transmit transmit)) q h lives y k) safe)
        by (Ok (outputs.Timeout moment)) h lives good stood free low added safe =
            inl (all_kept (IsSafe sdps p) (IsSafe sdps q) uses (λ y k. safe_on p (Ok (outputs.Timeout moment)) q h lives y k) safe)
        by (Err error) h lives good stood free low added safe =
            inl (all_kept (IsSafe sdps p) (IsSafe sdps q) uses (λ y k. safe_on p (Err error) q h lives y k) safe)

        -- once this side alone announced one, so it is
        on : (answer : Result (Output PlainMediaEvent) RtcError) → PollsPeer (plain_over draws) p answer q → Lives draws at b other sent c q
            → IsGood draws at b other sent c p → Stood draws at packets b other uses sent told p → NotFull draws s p
            → bound ≤ p.core.channels.given → AreAddedAt q → AllUses (IsSafe sdps p) uses ⊎ IsBad uses
            → AllUses (IsSafe sdps q) (uses_answered (plain_over draws) answer q uses) ⊎ IsBad (uses_answered (plain_over draws) answer q uses)
        on answer h lives good stood free low added (inl safe) = by answer h lives good stood free low added safe
        on answer h lives good stood free low added (inr bad) =
            inr (bad.0, over_answered (plain_over draws) answer q uses s (Some g) bad.1, bad.2)
