-- Ops, and what becomes of them, leave the parts that count their faults.
use Rattle.std.proofs.Common.{◌≡◌, ◌∙◌, ℕ, List, [], ◌∷◌, Bool, true, false, Result, Ok, Err, refl, ap}
use Rattle.std.specs.Prelude.{alloc_error}
use Rattle.std.specs.declared.alloc.AllocError.{AllocError}
use Rattle.rtc_parts.specs.DtlsState.{DtlsState}
use Rattle.rtc_sctp_entries.specs.declared.stream_entry.StreamEntry.{StreamEntry}
use Rattle.rtc_sdp_values.specs.declared.direction.Direction.{Direction}
use Rattle.rtc_sdp_values.specs.declared.direction.Direction.TheVariants.{Inactive}
use Rattle.rtc_change.specs.declared.change.Change.{Change}
use Rattle.rtc_peer_rows.specs.RowChanges.{RowChange, directed_row, stopped_row}
use Rattle.rtc_peer_core.specs.declared.peer.Peer.{Peer}
use Rattle.rtc_change.specs.PendingOffer.{PendingOffer}
use Rattle.rtc_peer_core.specs.declared.rtc_error.RtcError.{RtcError}
use Rattle.rtc_peer_core.specs.declared.rtc_error.RtcError.TheVariants.{RemoteSdp, Sdp as SdpRefused, Dtls, Sctp, Net, Media as MediaFailed, ChangesOutOfOrder, BadChannel, Alloc as PeerAlloc, Glare}
use Rattle.rtc_peer_core.specs.Calls.{ChangesLine, LacksOffer, after_channels_alone}
use Rattle.rtc_peer_core.specs.Meanings.{Meanings}
use Rattle.rtc_peer_core.specs.RollingBack.{RollsBack}
use Rattle.rtc_peer_core.specs.SdpHalves.{draws_half}
use Rattle.rtc_peer_core.specs.Stance.{stance_of}
use Rattle.rtc_run_history.specs.declared.side.Side.{Side}
use Rattle.rtc_run_history.specs.declared.op.Op.{Op}
use Rattle.rtc_run_history.specs.declared.op.Op.TheVariants.{AddMedia, SetDirection, StopMedia, AddChannel, IceRestart}
use Rattle.rtc_run_history.specs.declared.op_answer.OpAnswer.{OpAnswer}
use Rattle.rtc_run_history.specs.declared.op_answer.OpAnswer.TheVariants.{Mid, Changed, NoLine, Channel, Creds}
use Rattle.rtc_run_history.specs.declared.op_answer.OpAnswer.TheVariants.{BadChannel as NoChannel, Alloc as OpAlloc}
use Rattle.rtc_run_history.specs.declared.made.Made.{Made}
use Rattle.rtc_run_history.specs.declared.made.Made.TheVariants.{NotAsked, Nothing, Offer, Alloc as MadeAlloc}
use Rattle.rtc_run_history.specs.declared.kept.Kept.{Kept}
use Rattle.rtc_run_history.specs.Performs.{PerformsOps, MakesOf}

-- the parts that count their faults, with the streams that are in use
abbrev pub counting_parts : {I D S M N : Type 0} → Peer I D S M N → DtlsState D × (S × List StreamEntry) × M
counting_parts p = (p.dtls, (p.sctp.association, p.sctp.entries), p.media)

module _ {I D S M E X T W N : Type 0} (m : Meanings I D S M E X T W N) where
  line_counting : (change : RowChange) (to : Direction) (p : Peer I D S M N) (mid : List ℕ) (r : Result Bool AllocError) (q : Peer I D S M N) → ChangesLine change to p mid r q → counting_parts q ≡ counting_parts p
  line_counting change to p mid (Ok true) q h = ap counting_parts h.1
  line_counting change to p mid (Ok false) q h = ap counting_parts h.1
  line_counting change to p mid (Err error) q h = ap counting_parts h

  -- ops leave the DTLS part and the association
  pub ops_counting : (p : Peer I D S M N) (ops : List Op) (answers : List OpAnswer) (q : Peer I D S M N) → PerformsOps m p ops answers q → counting_parts q ≡ counting_parts p
  ops_counting p [] [] q h = ap counting_parts h
  ops_counting p (AddMedia kind dir ∷ ops) (Mid mid ∷ answers) q h = ops_counting h.0 ops answers q h.2 ∙ ap counting_parts h.1.1
  ops_counting p (AddMedia kind dir ∷ ops) (OpAlloc ∷ []) q h = ap counting_parts h.1
  ops_counting p (SetDirection place dir ∷ ops) (NoLine ∷ answers) q h = ops_counting p ops answers q h.1
  ops_counting p (SetDirection place dir ∷ ops) (Changed changed ∷ answers) q h = ops_counting h.0 ops answers q h.2 ∙ line_counting (directed_row dir) dir p h.1.mid (Ok changed) h.0 h.1.called
  ops_counting p (SetDirection place dir ∷ ops) (OpAlloc ∷ []) q h = line_counting (directed_row dir) dir p h.mid (Err alloc_error) q h.called
  ops_counting p (StopMedia place ∷ ops) (NoLine ∷ answers) q h = ops_counting p ops answers q h.1
  ops_counting p (StopMedia place ∷ ops) (Changed changed ∷ answers) q h = ops_counting h.0 ops answers q h.2 ∙ line_counting stopped_row Inactive p h.1.mid (Ok changed) h.0 h.1.called
  ops_counting p (StopMedia place ∷ ops) (OpAlloc ∷ []) q h = line_counting stopped_row Inactive p h.mid (Err alloc_error) q h.called
  ops_counting p (AddChannel config ∷ ops) (Channel id ∷ answers) q h = ops_counting h.0 ops answers q h.2 ∙ ap counting_parts h.1.2
  ops_counting p (AddChannel config ∷ ops) (NoChannel ∷ answers) q h = ops_counting h.0 ops answers q h.2 ∙ ap counting_parts h.1.1
  ops_counting p (AddChannel config ∷ ops) (OpAlloc ∷ []) q h = ap counting_parts h.1
  ops_counting p (IceRestart keep ∷ ops) (Creds creds ∷ answers) q h = ops_counting h.0 ops answers q h.2 ∙ ap counting_parts h.1.1
  ops_counting p (IceRestart keep ∷ ops) (OpAlloc ∷ []) q h = ap counting_parts h.1
  ops_counting p ops answers q h = absurd h

  alone_counting : (staged : List Change) (p : Peer I D S M N) → counting_parts (after_channels_alone staged p) ≡ counting_parts p
  alone_counting [] p = refl
  alone_counting (change ∷ changes) p = refl

  lacks_counting : (draws : Bool) (p q : Peer I D S M N) → LacksOffer m draws p q → counting_parts q ≡ counting_parts p
  lacks_counting true p q h = ap counting_parts h.1
  lacks_counting false p q h = ap counting_parts h

  -- and so does applying them
  pub makes_counting : (asked : Bool) (at : Side) (p : Peer I D S M N) (sdps : List Kept) (made : Made) (q : Peer I D S M N) (sdps' : List Kept) → MakesOf m asked at p sdps made q sdps' → counting_parts q ≡ counting_parts p
  makes_counting false at p sdps NotAsked q sdps' h = ap counting_parts h.0
  makes_counting true at p sdps Nothing q sdps' h = ap counting_parts h.0.1 ∙ alone_counting p.staged p
  makes_counting true at p sdps (Offer k) q sdps' h = ap counting_parts h.1.4
  makes_counting true at p sdps MadeAlloc q sdps' h = lacks_counting (draws_half (stance_of m p)) p q h.0
  makes_counting asked at p sdps made q sdps' h = absurd h

  -- nor does a rollback
  pub rolls_counting : (p : Peer I D S M N) (token : PendingOffer) (r : Result (Unit {0}) RtcError) (q : Peer I D S M N) → RollsBack p token r q → counting_parts q ≡ counting_parts p
  rolls_counting p token (Ok done) q h = ap counting_parts h.1
  rolls_counting p token (Err ChangesOutOfOrder) q h = ap counting_parts h.1
  rolls_counting p token (Err (RemoteSdp why)) q h = absurd h
  rolls_counting p token (Err (SdpRefused error)) q h = absurd h
  rolls_counting p token (Err (Dtls error)) q h = absurd h
  rolls_counting p token (Err (Sctp error)) q h = absurd h
  rolls_counting p token (Err (Net cause)) q h = absurd h
  rolls_counting p token (Err (MediaFailed cause)) q h = absurd h
  rolls_counting p token (Err BadChannel) q h = absurd h
  rolls_counting p token (Err PeerAlloc) q h = absurd h
  rolls_counting p token (Err Glare) q h = absurd h
