-- A start of the association leaves the entries of streams, and is beside them.
use Rattle.std.proofs.Common.{◌≡◌, inl, inr, ℕ, Bool, true, false, true≢false, [], Option, Some, None, Result, Ok, Err, refl, sym, ap, ◌∙◌}
use Rattle.rtc_parts.specs.AssociationLaws.{AssociationLaws}
use Rattle.rtc_sctp_values.specs.InitHalves.{InitHalves}
use Rattle.rtc_sctp_values.specs.declared.proto_error.ProtoError.TheVariants.{Fault as AssociationFault, Started, SnapHalf}
use Rattle.rtc_sctp_values.specs.declared.sctp_error.SctpError.{SctpError}
use Rattle.rtc_sctp_values.specs.declared.sctp_error.SctpError.TheVariants.{Proto, Alloc as SctpAlloc}
use Rattle.rtc_sctp.specs.Streams.{SctpStreams, is_established}
use Rattle.rtc_sctp.specs.declared.rtc_sctp_state.RtcSctpState.TheVariants.{Uninited}
use Rattle.rtc_sctp.specs.Calls.{Inits, begun_state}
use Rattle.rtc_sctp.proofs.BegunLemmas.{inits_started}
use Rattle.rtc_sctp_laws.proofs.AsideActs.{inits_aside}
use Rattle.rtc_sctp_laws.proofs.CallActs.{inits_did}
use Rattle.rtc_sctp_laws.proofs.CallUses.{inits_entries}
use Rattle.rtc_peer_core.specs.Meanings.{Meanings}
use Rattle.rtc_peer_core.specs.PartMoves.{dropped_halves, StartsWhere}
use Rattle.rtc_peer_laws.specs.RowsChanged.{KeepsBegun, KeepsSide, OnlyActs, StartsEstablished}
use Rattle.rtc_peer_laws.proofs.ChangedRows.{moved_ungiven, no_acts}

module _ {I D S M E X T W N : Type 0} (m : Meanings I D S M E X T W N) where
  -- the streams are started where they are to be; their entries stay
  pub started_entries : (b : Bool) (client : Bool) (now max : ℕ) (halves : Option InitHalves) (drops : Bool) (p : SctpStreams S)
      (r : Result (Unit {0}) SctpError) (q : SctpStreams S) → StartsWhere m.association b p client now max halves drops r q
      → q.entries ≡ p.entries
  started_entries false client now max halves drops p r q h = ap (λ (s : SctpStreams S). s.entries) h.1
  started_entries true client now max halves drops p r q h = inits_entries m.association client now max halves p r q h

  -- a start leaves the association begun, or as it was
  begun_state_is : (halves : Option InitHalves) (client : Bool) → begun_state halves client ≡ Uninited → ⊥
  begun_state_is None true e = cc (e)
  begun_state_is None false e = cc (e)
  begun_state_is (Some both) client e = cc (e)

  inits_begun : (client : Bool) (now max : ℕ) (halves : Option InitHalves) (p : SctpStreams S) (r : Result (Unit {0}) SctpError) (q : SctpStreams S)
      → Inits m.association client now max halves p r q → KeepsBegun p q
  inits_begun client now max halves p (Ok done) q h =
      λ e. absurd (begun_state_is halves client (sym (ap (λ (s : SctpStreams S). s.state) h.2) ∙ e))
  inits_begun client now max halves p (Err (Proto Started)) q h = (λ e. sym (ap (λ (s : SctpStreams S). s.state) h.1) ∙ e)
  inits_begun client now max halves p (Err (Proto SnapHalf)) q h = (λ e. sym (ap (λ (s : SctpStreams S). s.state) h.2) ∙ e)
  inits_begun client now max halves p (Err (Proto AssociationFault)) q h = (λ e. sym (ap (λ (s : SctpStreams S). s.state) h.2) ∙ e)
  inits_begun client now max halves p (Err SctpAlloc) q h = (λ e. sym (ap (λ (s : SctpStreams S). s.state) h.2) ∙ e)
  inits_begun client now max halves p (Err error) q h = absurd h

  -- one that is established by it is started
  inits_last : AssociationLaws m.association → (client : Bool) (now max : ℕ) (halves : Option InitHalves) (p : SctpStreams S)
      (r : Result (Unit {0}) SctpError) (q : SctpStreams S) → Inits m.association client now max halves p r q → StartsEstablished m.association p q
  inits_last w client now max halves p (Ok done) q h = (λ e. inr (h.0, inits_started m.association w client now max halves p q h))
  inits_last w client now max halves p (Err (Proto Started)) q h = (λ e. inl (ap is_established (sym (ap (λ (s : SctpStreams S). s.state) h.1)) ∙ e))
  inits_last w client now max halves p (Err (Proto SnapHalf)) q h = (λ e. inl (ap is_established (sym (ap (λ (s : SctpStreams S). s.state) h.2)) ∙ e))
  inits_last w client now max halves p (Err (Proto AssociationFault)) q h = (λ e. inl (ap is_established (sym (ap (λ (s : SctpStreams S). s.state) h.2)) ∙ e))
  inits_last w client now max halves p (Err SctpAlloc) q h = (λ e. inl (ap is_established (sym (ap (λ (s : SctpStreams S). s.state) h.2)) ∙ e))
  inits_last w client now max halves p (Err error) q h = absurd h

  -- one that was started before keeps its side
  inits_side : (client : Bool) (now max : ℕ) (halves : Option InitHalves) (p : SctpStreams S) (r : Result (Unit {0}) SctpError) (q : SctpStreams S)
      → Inits m.association client now max halves p r q → KeepsSide m.association p q
  inits_side client now max halves p (Ok done) q h = λ e. absurd (true≢false (sym e ∙ h.0))
  inits_side client now max halves p (Err (Proto Started)) q h = λ e. ap (λ (s : SctpStreams S). s.client) h.1
  inits_side client now max halves p (Err (Proto SnapHalf)) q h = λ e. ap (λ (s : SctpStreams S). s.client) h.2
  inits_side client now max halves p (Err (Proto AssociationFault)) q h = λ e. ap (λ (s : SctpStreams S). s.client) h.2
  inits_side client now max halves p (Err SctpAlloc) q h = λ e. ap (λ (s : SctpStreams S). s.client) h.2
  inits_side client now max halves p (Err error) q h = absurd h

  pub started_only : AssociationLaws m.association → (b : Bool) (client : Bool) (now max : ℕ) (halves : Option InitHalves) (drops : Bool) (p : SctpStreams S)
      (r : Result (Unit {0}) SctpError) (q : SctpStreams S) → StartsWhere m.association b p client now max halves drops r q
      → OnlyActs m.association p q
  started_only w false client now max halves drops p r q h =
      no_acts m.association p (record p { snap = dropped_halves drops p.snap }) q h.1 refl refl refl
  started_only w true client now max halves drops p r q h =
      let d = inits_aside m.association client now max halves p r q h in
      record {
        acts = d.acts;
        went = d.went;
        untold = d.untold;
        aside = d.aside;
        entries = inits_entries m.association client now max halves p r q h;
        begun = inits_begun client now max halves p r q h;
        lasts = inits_last w client now max halves p r q h;
        side = inits_side client now max halves p r q h;
        ungiven = λ e. inr (moved_ungiven m.association [] [] p q refl (inits_did m.association client now max halves p r q h));
      }
