-- A side of which no announced channel has a whole message unread, and each stream with one is shut: it stays so until more comes.
use Rattle.std.proofs.Common.{◌≡◌, ◌∙◌, ◌⊎◌, ◌++◌, ◌∷◌, ℕ, Bool, true, false, List, [], Some, inl, inr, sym, ap, subst}
use Rattle.rtc_parts.specs.AssociationWords.{given}
use Rattle.rtc_parts.specs.Among.{Member}
use Rattle.rtc_parts.specs.DtlsWords.{dtls_got}
use Rattle.rtc_assoc_state.specs.Contents.{generation_of, has_unread, is_started}
use Rattle.rtc_parts.specs.Draws.{Draws}
use Rattle.rtc_sctp_laws.specs.StreamMessages.{StreamMessage}
use Rattle.rtc_channels.specs.Channels.{Channel}
use Rattle.rtc_peer_core.specs.declared.phase.Phase.TheVariants.{Closed}
use Rattle.rtc_peer_laws.specs.Acts.{PeerDid}
use Rattle.rtc_peer_laws.specs.ChannelStreams.{IsGone}
use Rattle.rtc_peer_laws.specs.PeerActs.{Came}
use Rattle.rtc_peer_laws.proofs.ChannelsOver.{none_under}
use Rattle.rtc_peer_transport.specs.ChannelCalls.{open_stream_under}
use Rattle.rtc_run_laws.specs.PlainPairs.{PlainPolled, plain_over}
use Rattle.rtc_run_laws.specs.ChannelUses.{ChannelUse, with_got_message, with_rolled_back, with_sent_message}
use Rattle.rtc_run_laws.proofs.CalmActs.{received_still}
use Rattle.rtc_run_laws.proofs.ConnectedActs.{connected_still}
use Rattle.rtc_run_laws.proofs.FinishedSides.{none_among}
use Rattle.rtc_run_laws.proofs.HeardSides.{no_some, still_heard}
use Rattle.rtc_run_laws.proofs.OpenStreams.{open_free, open_placed}
use Rattle.rtc_run_laws.proofs.QuietActs.{HoldsNoOutput, StaysHeard, dtls_quiet, quiet_moved}
use Rattle.rtc_run_laws.proofs.ShutRows.{IsShutOne, ShutGoes}
use Rattle.rtc_run_laws.proofs.UnestablishedPolls.{IsUnestablished}
use Rattle.rtc_run_laws.proofs.UnestablishedRows.{Unestablishes}
use Rattle.rtc_run_laws.proofs.UnfinishedActs.{IsUnfinished, dtls_unfinished}
use Rattle.rtc_run_laws.proofs.UseLists.{AllUses, all_got, all_kept, all_member, all_more, all_rolled, all_sent}

-- nothing of the stream stands unread in its generation, or it is shut
abbrev pub RestsStream : {N : Type 0} → (stream : ℕ) → PlainPolled N → Type 0
RestsStream s p =
    (has_unread p.core.sctp.association s (generation_of p.core.sctp.association s) ≡ false) ⊎ IsShutOne s p.core.sctp

-- a channel has gone, or no whole message of the generation of its stream stands unread
abbrev pub RestsUse : {N : Type 0} → PlainPolled N → ChannelUse → Type 0
RestsUse p x =
    x.in_band ≡ true
    → (s : ℕ)
    → x.stream ≡ Some s
    → IsGone x.channel p.core.channels ⊎ (has_unread p.core.sctp.association s (generation_of p.core.sctp.association s) ≡ false)

pub record RestsUses {N : Type 0} (uses : List ChannelUse) (p : PlainPolled N) : Type 0 where
  pub quiet : HoldsNoOutput p.core.dtls.instance
  pub streams : (s : ℕ) → RestsStream s p
  pub each : AllUses (RestsUse p) uses

-- nothing stands to be given by the connection, and the association waits to be established
pub record WaitsEstablished {N : Type 0} (p : PlainPolled N) : Type 0 where
  pub quiet : HoldsNoOutput p.core.dtls.instance
  pub started : is_started p.core.sctp.association ≡ true
  pub waits : IsUnestablished p.core.sctp

-- so it is, or the handshake is not finished: no channel is announced in-band, and nothing is read
abbrev pub IsWaiting : {N : Type 0} → PlainPolled N → Type 0
IsWaiting p = IsUnfinished p.core.dtls.instance ⊎ WaitsEstablished p

abbrev pub RestsSide : {N : Type 0} → List ChannelUse → PlainPolled N → Type 0
RestsSide uses p = (p.core.phase ≡ Closed) ⊎ (IsWaiting p ⊎ RestsUses uses p)

pub rests_got : {N : Type 0} (c : ℕ) (message : Bool × List ℕ) (uses : List ChannelUse) (p : PlainPolled N) → RestsSide uses p
    → RestsSide (with_got_message c message uses) p
rests_got c message uses p (inl closed) = inl closed
rests_got c message uses p (inr (inl waiting)) = inr (inl waiting)
rests_got c message uses p (inr (inr h)) =
    inr (
    inr (record { quiet = h.quiet; streams = h.streams; each = all_got (RestsUse p) (RestsUse p) c message uses (λ x e k. k) (λ x e k. k) h.each })
    )

pub rests_sent : {N : Type 0} (c : ℕ) (message : Bool × List ℕ) (uses : List ChannelUse) (p : PlainPolled N) → RestsSide uses p
    → RestsSide (with_sent_message c message uses) p
rests_sent c message uses p (inl closed) = inl closed
rests_sent c message uses p (inr (inl waiting)) = inr (inl waiting)
rests_sent c message uses p (inr (inr h)) =
    inr (
    inr (record { quiet = h.quiet; streams = h.streams; each = all_sent (RestsUse p) (RestsUse p) c message uses (λ x e k. k) (λ x e k. k) h.each })
    )

pub rests_rolled : {N : Type 0} (before after : List Channel) (uses : List ChannelUse) (p : PlainPolled N) → RestsSide uses p
    → RestsSide (with_rolled_back before after uses) p
rests_rolled before after uses p (inl closed) = inl closed
rests_rolled before after uses p (inr (inl waiting)) = inr (inl waiting)
rests_rolled before after uses p (inr (inr h)) =
    inr (
    inr
    (record { quiet = h.quiet; streams = h.streams; each = all_rolled (RestsUse p) (RestsUse p) before after uses (λ x e k. k) (λ x e k. k) h.each })
    )

-- one more is announced
pub rests_more : {N : Type 0} (x : ChannelUse) (uses : List ChannelUse) (p : PlainPolled N) → (RestsUses uses p → RestsUse p x) → RestsSide uses p
    → RestsSide (uses ++ x ∷ []) p
rests_more x uses p own (inl closed) = inl closed
rests_more x uses p own (inr (inl waiting)) = inr (inl waiting)
rests_more x uses p own (inr (inr h)) =
    inr (inr (record { quiet = h.quiet; streams = h.streams; each = all_more (RestsUse p) uses x h.each (own h) }))

pub rests_same : {N : Type 0} (uses : List ChannelUse) (p q : PlainPolled N) → q ≡ p → RestsSide uses p → RestsSide uses q
rests_same {N} uses p q same h = subst (λ (x : PlainPolled N). RestsSide uses x) (sym same) h

-- what shut streams keep, and what an association keeps that waits to be established
abbrev pub GoesOn : {N : Type 0} → PlainPolled N → PlainPolled N → Type 0
GoesOn p q = ((s : ℕ) → ShutGoes s p.core.sctp q.core.sctp) × Unestablishes p.core.sctp q.core.sctp

module _ {N : Type 0} (draws : Draws N) where
  kept_waits : (came : Came) (moments : List ℕ) (shown : List (List ℕ)) (wrote heard : List StreamMessage) (p q : PlainPolled N)
      → PeerDid (plain_over draws) came moments shown wrote heard p q → ((x : List ℕ) → Member x came.dtls → x ≡ []) → GoesOn p q → WaitsEstablished p
      → WaitsEstablished q
  kept_waits came moments shown wrote heard p q did empty goes h =
      let dtls =
      dtls_quiet did.acts.dtls p.core.dtls.instance q.core.dtls.instance did.went.dtls (λ x k. empty x (did.given_dtls.each x k)) h.quiet in
      let none : given did.acts.association ≡ [] = none_among (given did.acts.association) _ did.handed dtls.1 in
      record {
        quiet = dtls.0;
        started = goes.1.started h.started;
        waits =
            goes.1.keeps (
              received_still did.acts.association p.core.sctp.association q.core.sctp.association did.went.association none,
              connected_still did.acts.association p.core.sctp.association q.core.sctp.association did.went.association none h.started,
            ) h.started h.waits;
      }

  kept_uses : (came : Came) (moments : List ℕ) (shown : List (List ℕ)) (wrote heard : List StreamMessage) (p q : PlainPolled N)
      (uses : List ChannelUse) → PeerDid (plain_over draws) came moments shown wrote heard p q
      → ((x : List ℕ) → Member x came.dtls → x ≡ []) → ((c : ℕ) → IsGone c p.core.channels → IsGone c q.core.channels) → GoesOn p q
      → RestsUses uses p → RestsUses uses q
  kept_uses came moments shown wrote heard p q uses did empty gones goes h = record {
    quiet = dtls.0;
    streams = λ s. on s (h.streams s);
    each = all_kept (RestsUse p) (RestsUse q) uses (λ x k. λ band s of. left x.channel s (k band s of)) h.each;
  }
    where
      dtls : HoldsNoOutput q.core.dtls.instance × (dtls_got did.acts.dtls ≡ [])
      dtls = dtls_quiet did.acts.dtls p.core.dtls.instance q.core.dtls.instance did.went.dtls (λ x k. empty x (did.given_dtls.each x k)) h.quiet

      none : given did.acts.association ≡ []
      none = none_among (given did.acts.association) _ did.handed dtls.1

      acts : StaysHeard p.core.sctp.association q.core.sctp.association
      acts = quiet_moved did.acts.association p.core.sctp.association q.core.sctp.association did.went.association none

      on : (s : ℕ) → RestsStream s p → RestsStream s q
      on s (inl quiet) = inl (still_heard p.core.sctp.association q.core.sctp.association s acts quiet)
      on s (inr shut) =
          inr
          ((goes.0 s).keeps
          (received_still did.acts.association p.core.sctp.association q.core.sctp.association did.went.association none, acts.same s) shut)

      left : (c s : ℕ) → IsGone c p.core.channels ⊎ (has_unread p.core.sctp.association s (generation_of p.core.sctp.association s) ≡ false)
          → IsGone c q.core.channels ⊎ (has_unread q.core.sctp.association s (generation_of q.core.sctp.association s) ≡ false)
      left c s (inl gone) = inl (gones c gone)
      left c s (inr quiet) = inr (still_heard p.core.sctp.association q.core.sctp.association s acts quiet)

  -- acts to which no packet came, or one of no bytes
  pub rests_kept : (came : Came) (moments : List ℕ) (shown : List (List ℕ)) (wrote heard : List StreamMessage) (p q : PlainPolled N)
      (uses : List ChannelUse) → PeerDid (plain_over draws) came moments shown wrote heard p q
      → ((x : List ℕ) → Member x came.dtls → x ≡ []) → ((c : ℕ) → IsGone c p.core.channels → IsGone c q.core.channels)
      → (p.core.phase ≡ Closed → q.core.phase ≡ Closed) → (q.core.phase ≡ Closed) ⊎ GoesOn p q → RestsSide uses p → RestsSide uses q
  rests_kept came moments shown wrote heard p q uses did empty gones closes goes (inl closed) = inl (closes closed)
  rests_kept came moments shown wrote heard p q uses did empty gones closes (inl closed) (inr h) = inl closed
  rests_kept came moments shown wrote heard p q uses did empty gones closes (inr goes) (inr (inl (inl unfinished))) =
      inr
      (inl
      (inl
      (dtls_unfinished did.acts.dtls p.core.dtls.instance q.core.dtls.instance did.went.dtls (λ x k. empty x (did.given_dtls.each x k)) unfinished)))
  rests_kept came moments shown wrote heard p q uses did empty gones closes (inr goes) (inr (inl (inr h))) =
      inr (inl (inr (kept_waits came moments shown wrote heard p q did empty goes h)))
  rests_kept came moments shown wrote heard p q uses did empty gones closes (inr goes) (inr (inr h)) =
      inr (inr (kept_uses came moments shown wrote heard p q uses did empty gones goes h))

  -- where the channel is open, nothing of its generation stands unread
  pub rests_open : (uses : List ChannelUse) (p : PlainPolled N) (x : ChannelUse) → RestsSide uses p
      → (IsWaiting p → (s g : ℕ) → has_unread p.core.sctp.association s g ≡ false) → Member x uses → x.in_band ≡ true
      → (stream : ℕ) → x.stream ≡ Some stream → open_stream_under x.channel p ≡ Some stream
      → generation_of p.core.sctp.association stream ≡ x.generation → has_unread p.core.sctp.association stream x.generation ≡ false
  rests_open uses p x (inl closed) waited mine band stream of there own = absurd (open_free x.channel stream p there closed)
  rests_open uses p x (inr (inl waiting)) waited mine band stream of there own = waited waiting stream x.generation
  rests_open uses p x (inr (inr h)) waited mine band stream of there own = by (all_member (RestsUse p) uses x h.each mine band stream of)
    where
      by : IsGone x.channel p.core.channels
          ⊎ (has_unread p.core.sctp.association stream (generation_of p.core.sctp.association stream) ≡ false)
          → has_unread p.core.sctp.association stream x.generation ≡ false
      by (inl gone) =
          absurd (no_some stream (sym (none_under x.channel p.core.channels.rows gone.1) ∙ open_placed x.channel stream p there))
      by (inr none) = ap (λ (n : ℕ). has_unread p.core.sctp.association stream n) (sym own) ∙ none
