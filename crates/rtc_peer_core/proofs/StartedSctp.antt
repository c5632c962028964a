-- What a start of the association by a session description leaves of it: whether it is started, and what is kept of such starts.
use Rattle.std.proofs.Common.{◌≡◌, ◌∙◌, ℕ, Bool, true, false, List, Option, Ok, Err, refl, ap}
use Rattle.std.specs.Prelude.{◌&&◌, ◌||◌, not, is_some}
use Rattle.rtc_sdp_values.specs.declared.line_row.LineRow.{LineRow}
use Rattle.rtc_parts.specs.AssociationMeaning.{AssociationMeaning}
use Rattle.rtc_parts.specs.AssociationLaws.{AssociationLaws}
use Rattle.rtc_sctp_values.specs.InitHalves.{InitHalves}
use Rattle.rtc_sctp_values.specs.declared.sctp_error.SctpError.{SctpError}
use Rattle.rtc_sctp.specs.Streams.{SctpStreams}
use Rattle.rtc_sctp.proofs.BegunLemmas.{LeavesStart, inits_started, inits_snap, refused_start}
use Rattle.rtc_peer_rows.specs.Table.{app_of}
use Rattle.rtc_peer_core.specs.PartMoves.{StartsSctp, StartsWhere, needs_start}
use Rattle.rtc_peer_core.proofs.StanceTaken.{inited_after, begun_by}

module _ {S : Type 0} (m : AssociationMeaning S) where
  -- what an Ok start leaves: whether the association is started, and what is kept
  pub record HasStarted (p : SctpStreams S) (rows : List LineRow) (halves : Option InitHalves) (drops : Bool) (q : SctpStreams S)
      : Type 0 where
    pub inited : m.started q.association ≡ inited_after (m.started p.association) rows
    pub snap : q.snap ≡ begun_by (needs_start m rows p) halves drops p.snap

  -- an association is started behind rows that start it, and where it was started
  begun_where : (some started : Bool) → (some && not started) ≡ true → true ≡ (started || some)
  begun_where true started h = by started
    where
      by : (b : Bool) → true ≡ (b || true)
      by true = refl
      by false = refl
  begun_where false started h = absurd (cc)

  kept_where : (some started : Bool) → (some && not started) ≡ false → started ≡ (started || some)
  kept_where some true h = refl
  kept_where true false h = absurd (cc)
  kept_where false false h = refl

  started_by : AssociationLaws m → (p q : SctpStreams S) (rows : List LineRow) (client : Bool) (now max : ℕ) (halves : Option InitHalves)
      (drops needed : Bool) → needs_start m rows p ≡ needed → StartsWhere m needed p client now max halves drops (Ok tt) q
      → m.started q.association ≡ inited_after (m.started p.association) rows
  started_by laws p q rows client now max halves drops false is h =
      ap (λ (s : SctpStreams S). m.started s.association) h.1 ∙ kept_where (is_some (app_of rows)) (m.started p.association) is
  started_by laws p q rows client now max halves drops true is h =
      inits_started m laws client now max halves p q h ∙ begun_where (is_some (app_of rows)) (m.started p.association) is

  snap_by : AssociationLaws m → (p q : SctpStreams S) (client : Bool) (now max : ℕ) (halves : Option InitHalves) (drops needed : Bool)
      → StartsWhere m needed p client now max halves drops (Ok tt) q → q.snap ≡ begun_by needed halves drops p.snap
  snap_by laws p q client now max halves drops false h = ap (λ (s : SctpStreams S). s.snap) h.1
  snap_by laws p q client now max halves drops true h = inits_snap m laws client now max halves p q h

  pub has_started : AssociationLaws m → (p q : SctpStreams S) (rows : List LineRow) (client : Bool) (now max : ℕ)
      (halves : Option InitHalves) (drops : Bool) → StartsSctp m p rows client now max halves drops (Ok tt) q
      → HasStarted p rows halves drops q
  has_started laws p q rows client now max halves drops h = record {
    inited = started_by laws p q rows client now max halves drops (needs_start m rows p) refl h;
    snap = snap_by laws p q client now max halves drops (needs_start m rows p) h;
  }

  refused_where : AssociationLaws m → (p q : SctpStreams S) (client : Bool) (now max : ℕ) (halves : Option InitHalves)
      (drops : Bool) (error : SctpError) (needed : Bool) → StartsWhere m needed p client now max halves drops (Err error) q → LeavesStart m p q
  refused_where laws p q client now max halves drops error false h = absurd (let none = h.0 in cc)
  refused_where laws p q client now max halves drops error true h = refused_start m laws client now max halves p q error h

  -- a refused start leaves both
  pub refused_sctp : AssociationLaws m → (p q : SctpStreams S) (rows : List LineRow) (client : Bool) (now max : ℕ)
      (halves : Option InitHalves) (drops : Bool) (error : SctpError) → StartsSctp m p rows client now max halves drops (Err error) q
      → LeavesStart m p q
  refused_sctp laws p q rows client now max halves drops error h =
      refused_where laws p q client now max halves drops error (needs_start m rows p) h
