-- A side that read something has finished its handshake: a plain association that was given no packet reads nothing.
use Rattle.std.proofs.Common.{◌≡◌, ◌∙◌, ◌∷◌, ℕ, Bool, true, false, true≢false, List, [], map, inl, refl, sym, subst}
use Rattle.rtc_parts.specs.Among.{Among, Member}
use Rattle.rtc_parts.specs.AssociationActs.{AssociationAct, Given, Read, Moved}
use Rattle.rtc_parts.specs.AssociationWords.{given}
use Rattle.rtc_parts.specs.DtlsWords.{dtls_got}
use Rattle.rtc_plain_dtls.specs.Contents.{fresh_dtls, phase_is_finished}
use Rattle.rtc_assoc_state.specs.Contents.{Contents, fresh_contents, has_unread}
use Rattle.rtc_assoc_state.specs.Streams.{stream_of}
use Rattle.rtc_assoc_state.specs.Calls.{next_message}
use Rattle.rtc_assoc_state.specs.PlainMeaning.{plain_meaning}
use Rattle.rtc_assoc_state.proofs.DoesLemmas.{reads_some}
use Rattle.rtc_assoc_state.proofs.ReadableLemmas.{some-unread}
use Rattle.rtc_parts.specs.Draws.{Draws}
use Rattle.rtc_sctp_laws.specs.StreamMessages.{StreamMessage, read_act, reads_of}
use Rattle.rtc_peer_laws.specs.PeerActs.{PeerActs}
use Rattle.rtc_run_laws.specs.PlainPairs.{PlainPolled}
use Rattle.rtc_run_laws.specs.ChannelUses.{ChannelUse}
use Rattle.rtc_run_laws.proofs.QuietActs.{Unraised, raised_act}
use Rattle.rtc_run_laws.proofs.StandingSides.{SideStood}
use Rattle.rtc_run_laws.proofs.UnfinishedParts.{unfinished_got}

-- ---- the association

no_packet : (packet : List ℕ) (l : List (List ℕ)) → packet ∷ l ≡ [] → ⊥
no_packet packet l e = cc (e)

unread_none : (acts : List AssociationAct) (p q : Contents) → Moved plain_meaning p acts q → given acts ≡ []
    → ((s g : ℕ) → has_unread p s g ≡ false) → reads_of acts ≡ []
unread_none [] p q h none unread = refl
unread_none (Given packet ∷ acts) p q h none unread = absurd (no_packet packet (given acts) none)
unread_none (Read s g i bytes ∷ acts) p q h none unread =
    let w = reads_some (next_message s p) s p h.0 (h.1.0.0, bytes) h.1.0.1.0.1 in
    absurd
    (true≢false
    (sym (some-unread s (stream_of s p.streams).generation p.inbox.unread w.0 w.1.0)
    ∙ unread s (stream_of s p.streams).generation))
unread_none (act ∷ acts) p q h none unread =
    unread_none acts h.0 q h.1.1 none (λ s g. still s g (raised_act p h.0 act refl h.1.0) (has_unread h.0 s g) refl)
  where
    still : (s g : ℕ) → Unraised p h.0 → (b : Bool) → has_unread h.0 s g ≡ b → b ≡ false
    still s g raised true e = absurd (true≢false (sym (raised s g e) ∙ unread s g))
    still s g raised false e = refl

-- ---- sides

pub none_among : (l k : List (List ℕ)) → Among l k → k ≡ [] → l ≡ []
none_among [] k h e = refl
none_among (x ∷ l) k h e = absurd (subst (λ (n : List (List ℕ)). Member x n) e (h.each x (inl refl)))

no_reading : (read : List StreamMessage) → map read_act read ≡ [] → read ≡ []
no_reading [] h = refl
no_reading (x ∷ read) h = absurd (no_act (read_act x) (map read_act read) h)
  where
    no_act : (act : AssociationAct) (l : List AssociationAct) → act ∷ l ≡ [] → ⊥
    no_act act l e = cc (e)

-- the handshake of a side that read something is finished
pub read_finished : {N : Type 0} (draws : Draws N) (acts : PeerActs) (uses : List ChannelUse) (p : PlainPolled N) (side : SideStood draws acts uses p)
    → (side.read ≡ [] → ⊥) → phase_is_finished p.core.dtls.instance.phase ≡ true
read_finished draws acts uses p side some = by (phase_is_finished p.core.dtls.instance.phase) refl
  where
    by : (b : Bool) → phase_is_finished p.core.dtls.instance.phase ≡ b → b ≡ true
    by true e = refl
    by false e =
        absurd
        (some
        (no_reading side.read
        (sym side.read_is
        ∙ unread_none acts.association fresh_contents p.core.sctp.association side.went
        (none_among (given acts.association) (dtls_got acts.dtls) side.handed
        ((unfinished_got acts.dtls fresh_dtls p.core.dtls.instance side.dtls e).1 tt)) (λ s g. refl))))
