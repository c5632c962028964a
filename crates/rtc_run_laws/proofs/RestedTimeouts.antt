-- A side of which a poll ended in a timeout rests: what stands unread is of streams that are shut, or no channel is announced in-band.
use Rattle.std.proofs.Common.{◌≡◌, ◌∙◌, ◌⊎◌, ◌+◌, ◌&&◌, ◌∷◌, ℕ, Bool, true, false, true≢false, List, [], length, Option, Some, None, Ok, inl, inr, refl, sym, ap, subst, arith}
use Rattle.std.specs.Prelude.{is_some}
use Rattle.rtc_parts.specs.AssociationActs.{AssociationAct, Moved}
use Rattle.rtc_parts.specs.AssociationWords.{given}
use Rattle.rtc_parts.specs.declared.assoc_event.AssocEvent.{AssocEvent}
use Rattle.rtc_parts.specs.DtlsState.{DtlsState, can_send}
use Rattle.rtc_parts.specs.DtlsWords.{dtls_got}
use Rattle.rtc_plain_dtls.specs.declared.output.Output.{Output}
use Rattle.rtc_plain_dtls.specs.Contents.{DtlsContents, fresh_dtls, phase_is_finished}
use Rattle.rtc_plain_dtls.specs.PlainLaws.{plain_dtls_laws}
use Rattle.rtc_plain_dtls.specs.PlainMeaning.{plain_dtls}
use Rattle.rtc_assoc_state.specs.Contents.{Contents, fresh_contents, generation_of, has_stream, has_unread, is_started}
use Rattle.rtc_assoc_state.specs.PlainMeaning.{plain_meaning}
use Rattle.rtc_assoc_state.proofs.PlainLaws.{plain_laws}
use Rattle.rtc_parts.specs.Draws.{Draws}
use Rattle.rtc_sctp_entries.specs.declared.stream_entry.StreamEntry.{StreamEntry}
use Rattle.rtc_sctp.specs.Streams.{is_established}
use Rattle.rtc_sctp_laws.proofs.BackedRows.{plain_sound, plain_unread}
use Rattle.rtc_sctp_laws.proofs.KnownStreams.{IsBackedBy, moved_backed}
use Rattle.rtc_sctp_laws.proofs.PlainGenerations.{plain_generations}
use Rattle.rtc_peer_core.specs.declared.phase.Phase.{Phase}
use Rattle.rtc_peer_core.specs.declared.phase.Phase.TheVariants.{Alive, Closing, Closed}
use Rattle.rtc_peer_transport.specs.declared.output.Output.TheVariants.{Timeout}
use Rattle.rtc_peer_polling.specs.Walk.{PollsPeer}
use Rattle.rtc_peer_laws.specs.Drained.{AllHeard, AreHeard, IsHeard}
use Rattle.rtc_peer_laws.specs.Exchanging.{parts_past}
use Rattle.rtc_peer_laws.specs.JoinedPeers.{ends_of, packet_parts}
use Rattle.rtc_peer_laws.specs.PeerActs.{PeerActs}
use Rattle.rtc_peer_laws.proofs.DrainedPolls.{Ends, AtRest, Waiting, poll_ends}
use Rattle.rtc_peer_polling.proofs.Draining.{visit_drains}
use Rattle.rtc_peer_laws.proofs.HeardPolls.{timeout_heard}
use Rattle.rtc_peer_polling.proofs.RestingConnection.{DtlsRests}
use Rattle.rtc_peer_polling.proofs.RestingStages.{Drained}
use Rattle.rtc_run_history.specs.declared.side.Side.{Side}
use Rattle.rtc_run_history.specs.declared.side.Side.TheVariants.{Left, Right}
use Rattle.rtc_run_laws.specs.ChannelUses.{ChannelUse}
use Rattle.rtc_run_laws.specs.PlainPairs.{PlainPolled, plain_over}
use Rattle.rtc_run_laws.proofs.EventEnds.{AreEvents}
use Rattle.rtc_run_laws.proofs.FreshSides.{IsFresh, IsReady, SideFresh}
use Rattle.rtc_run_laws.proofs.ClosingLevels.{Level}
use Rattle.rtc_run_laws.proofs.ClosingMoves.{level_run}
use Rattle.rtc_run_laws.proofs.FinishedSides.{none_among}
use Rattle.rtc_run_laws.proofs.QuietActs.{HoldsNoOutput, quiet_moved}
use Rattle.rtc_run_laws.proofs.RestedSides.{IsWaiting, RestsSide, RestsStream, RestsUse, RestsUses}
use Rattle.rtc_run_laws.proofs.ShutEntries.{AreShut, IsShutEntry, ReadsNothing}
use Rattle.rtc_run_laws.proofs.StandingExchange.{ExchangeBy}
use Rattle.rtc_run_laws.proofs.StandingSides.{SideStood}
use Rattle.rtc_run_laws.proofs.StepsExchange.{plain_over_laws}
use Rattle.rtc_run_laws.proofs.TimeoutSides.{use_heard, waits_none}
use Rattle.rtc_run_laws.proofs.UnestablishedPolls.{TellsOther}
use Rattle.rtc_run_laws.proofs.UnfinishedParts.{unfinished_got}
use Rattle.rtc_run_laws.proofs.UseLists.{all_kept}
use Rattle.rtc_run_laws.proofs.UsesTold.{InBandTold}

-- ---- the association

-- an end that was given no packet has nothing unread
no_unread : (acts : List AssociationAct) (a : Contents) → Moved plain_meaning fresh_contents acts a → given acts ≡ [] → (s g : ℕ)
    → has_unread a s g ≡ false
no_unread acts a h none s g = by (has_unread a s g) refl
  where
    by : (b : Bool) → has_unread a s g ≡ b → b ≡ false
    by true e = absurd (true≢false (sym ((quiet_moved acts fresh_contents a h none).unraised s g e)))
    by false e = refl

-- a stream of which a message of its generation stands unread is there
unread_there : (acts : List AssociationAct) (a : Contents) → Moved plain_meaning fresh_contents acts a → plain_sound a → (s : ℕ)
    → has_unread a s (generation_of a s) ≡ true → has_stream a s ≡ true
unread_there acts a h ok s e =
    by
    (moved_backed plain_meaning plain_sound plain_laws plain_generations plain_unread acts fresh_contents a h (λ sound t g k. absurd (true≢false (sym k))) ok s
    (generation_of a s) e)
  where
    by : IsBackedBy plain_meaning plain_sound a s (generation_of a s) → has_stream a s ≡ true
    by (inl less) = absurd (omega (arith, less))
    by (inr here) = here.1

shut_entries : (a : Contents) (s : ℕ) (es : List StreamEntry) → AreHeard plain_meaning a es → has_unread a s (generation_of a s) ≡ true → AreShut s es
shut_entries a s [] h e = tt
shut_entries a s (x ∷ es) h e = ((λ own. by own h.0), shut_entries a s es h.1 e)
  where
    by : x.id ≡ s → IsHeard plain_meaning a x → IsShutEntry x
    by own (inl waits) = inl waits.0
    by own (inr heard) =
        absurd (true≢false (sym e ∙ ap (λ (n : ℕ). has_unread a n (generation_of a n)) (sym own) ∙ heard.2))

no_events : (ok : AssocEvent → Type 0) (events : List AssocEvent) (n : ℕ) → length events + n ≡ 0 → AreEvents ok events
no_events ok [] n h = tt
no_events ok (e ∷ events) n h = absurd (omega (arith, h))

-- ---- the connection

no_outputs : (n : ℕ) (l : List Output) → n + length l ≡ 0 → l ≡ []
no_outputs n [] h = refl
no_outputs n (x ∷ l) h = absurd (omega (arith, h))

rests_empty : (active : Option Bool) (i : DtlsContents) (wake : ℕ) → DtlsRests plain_dtls plain_dtls_laws active i wake → is_some active ≡ true
    → HoldsNoOutput i
rests_empty None i wake h e = absurd (true≢false (sym e))
rests_empty (Some active) i wake h e = no_outputs (length i.packets) i.outputs h.0

both_are : (a b : Bool) → a ≡ true → b ≡ true → (a && b) ≡ true
both_are true b e k = k
both_are false b e k = absurd (true≢false (sym e))

-- no end of an exchange took an item of another generation than its stream had
pub exchange_sound : {N : Type 0} (at : Side) (a b : PeerActs) (sent others : List (List ℕ)) (p q : PlainPolled N) → ExchangeBy at a sent p b others q
    → plain_sound p.core.sctp.association
exchange_sound Left a b sent others p q x =
    Level.left_sound
    (level_run x.joined.moves (ends_of (parts_past a) (packet_parts p) (parts_past b) (packet_parts q)) x.joined.run)
exchange_sound Right a b sent others p q x =
    Level.right_sound
    (level_run x.joined.moves (ends_of (parts_past b) (packet_parts q) (parts_past a) (packet_parts p)) x.joined.run)

-- ---- sides

module _ {N : Type 0} (draws : Draws N) where
  -- over a connection of which the handshake is not finished nothing came
  pub unfinished_unread : (acts : PeerActs) (uses : List ChannelUse) (q : PlainPolled N) → SideStood draws acts uses q
      → phase_is_finished q.core.dtls.instance.phase ≡ false → (s g : ℕ) → has_unread q.core.sctp.association s g ≡ false
  unfinished_unread acts uses q side unfinished s g =
      no_unread acts.association q.core.sctp.association side.went
      (none_among (given acts.association) (dtls_got acts.dtls) side.handed
      ((unfinished_got acts.dtls fresh_dtls q.core.dtls.instance side.dtls unfinished).1 tt))
      s g

  module _ (p q : PlainPolled N) (moment : ℕ) (acts : PeerActs) (uses : List ChannelUse)
      (polled : PollsPeer (plain_over draws) p (Ok (Timeout moment)) q) (side : SideStood draws acts uses q)
      (ok : plain_sound q.core.sctp.association) (live : q.core.phase ≡ Closed → ⊥)
      (finished : phase_is_finished q.core.dtls.instance.phase ≡ true) (active : is_some q.core.dtls.active ≡ true) (fresh : IsFresh q.core.sctp) where
    quiet_by : Ends (plain_over draws) moment q → HoldsNoOutput q.core.dtls.instance
    quiet_by (AtRest closed is reason) = absurd (live closed)
    quiet_by (Waiting last v visit alive unclosed is same) =
        subst (λ (d : DtlsState DtlsContents). HoldsNoOutput d.instance) (sym dtls_is)
        (rests_empty v.core.dtls.active v.core.dtls.instance v.transport.dtls_wake
        (Drained.dtls (visit_drains (plain_over draws) (plain_over_laws draws) last v visit))
        (subst (λ (d : DtlsState DtlsContents). is_some d.active ≡ true) dtls_is active))
      where
        dtls_is : q.core.dtls ≡ v.core.dtls
        dtls_is = ap (λ (x : PlainPolled N). x.core.dtls) same

    none_by : Ends (plain_over draws) moment q → can_send plain_dtls q.core.dtls ≡ true → q.core.sctp.pushed ≡ None
    none_by (AtRest closed is reason) can = absurd (live closed)
    none_by (Waiting last v visit alive unclosed is same) can =
        ap (λ (x : PlainPolled N). x.core.sctp.pushed) same
        ∙ waits_none draws v.core.sctp v.core.dtls (Drained.streams (visit_drains (plain_over draws) (plain_over_laws draws) last v visit))
        (subst (λ (d : DtlsState DtlsContents). can_send plain_dtls d ≡ true) (ap (λ (x : PlainPolled N). x.core.dtls) same) can)

    ends : Ends (plain_over draws) moment q
    ends = poll_ends (plain_over draws) p.core.phase moment p q refl polled

    all : AllHeard plain_meaning q.core.sctp
    all =
        timeout_heard (plain_over draws) (plain_over_laws draws) p q moment polled live
        (none_by ends (both_are (is_some q.core.dtls.active) (phase_is_finished q.core.dtls.instance.phase) active finished))

    -- before a start nothing came
    unstarted_rests : is_started q.core.sctp.association ≡ false → RestsUses uses q
    unstarted_rests unstarted = record {
      quiet = quiet_by ends;
      streams = λ s. inl (fresh unstarted s (generation_of q.core.sctp.association s));
      each = all_kept (InBandTold (plain_over draws) side.written side.read q) (RestsUse q) uses
          (λ x t. λ band s of. inr (fresh unstarted s (generation_of q.core.sctp.association s))) side.told.each;
    }

    -- over an association that is established
    established_rests : is_started q.core.sctp.association ≡ true → is_established q.core.sctp.state ≡ true → RestsUses uses q
    established_rests started established =
        record {
          quiet = quiet_by ends;
          streams = λ s. on s (has_unread q.core.sctp.association s (generation_of q.core.sctp.association s)) refl;
          each = all_kept (InBandTold (plain_over draws) side.written side.read q) (RestsUse q) uses told side.told.each;
        }
      where
        are : AreHeard plain_meaning q.core.sctp.association q.core.sctp.entries
        are = all.streams (both_are (is_established q.core.sctp.state) (plain_meaning.started q.core.sctp.association) established started)

        on : (s : ℕ) (b : Bool) → has_unread q.core.sctp.association s (generation_of q.core.sctp.association s) ≡ b → RestsStream s q
        on s false e = inl e
        on s true e =
            inr (
              (
                unread_there acts.association q.core.sctp.association side.went ok s e,
                no_events ReadsNothing q.core.sctp.association.events (length q.core.sctp.association.packets) (all.quiet started),
              ),
              shut_entries q.core.sctp.association s q.core.sctp.entries are e,
            )

        told : (x : ChannelUse) → InBandTold (plain_over draws) side.written side.read q x → RestsUse q x
        told x t = λ band s of. use_heard draws side.written side.read q x s of are live (t band)

    -- by whether the association is started, and established
    finished_rests : IsWaiting q ⊎ RestsUses uses q
    finished_rests = by (is_started q.core.sctp.association) refl (is_established q.core.sctp.state) refl
      where
        by : (started : Bool) → is_started q.core.sctp.association ≡ started → (established : Bool) → is_established q.core.sctp.state ≡ established
            → IsWaiting q ⊎ RestsUses uses q
        by false e established k = inr (unstarted_rests e)
        by true e true k = inr (established_rests e k)
        by true e false k =
            inl
            (inr
            (record {
              quiet = quiet_by ends;
              started = e;
              waits = (k, no_events TellsOther q.core.sctp.association.events (length q.core.sctp.association.packets) (all.quiet e));
            }))

  pub rests_timeout : (p q : PlainPolled N) (moment : ℕ) (acts : PeerActs) (uses : List ChannelUse)
      → PollsPeer (plain_over draws) p (Ok (Timeout moment)) q → IsReady q → SideStood draws acts uses q → plain_sound q.core.sctp.association
      → RestsSide uses q
  rests_timeout p q moment acts uses polled ready side ok = by q.core.phase refl
    where
      waited : (live : q.core.phase ≡ Closed → ⊥) → SideFresh q → (b : Bool) → phase_is_finished q.core.dtls.instance.phase ≡ b → RestsSide uses q
      waited live (inl closed) b e = inl closed
      waited live (inr fresh) true e = inr (finished_rests p q moment acts uses polled side ok live e (ready.active e) fresh)
      waited live (inr fresh) false e = inr (inl (inl e))

      by : (phase : Phase) → q.core.phase ≡ phase → RestsSide uses q
      by Closed e = inl e
      by Alive e = waited (λ closed. let clash : Alive ≡ Closed = sym e ∙ closed in cc) ready.fresh (phase_is_finished q.core.dtls.instance.phase) refl
      by Closing e = waited (λ closed. let clash : Closing ≡ Closed = sym e ∙ closed in cc) ready.fresh (phase_is_finished q.core.dtls.instance.phase) refl
