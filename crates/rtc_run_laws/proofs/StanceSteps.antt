-- What each step does to a pair, as negotiation sees both sides.
use Rattle.std.specs.Prelude.{◌≡◌, ◌+◌, ℕ, List, [], ◌∷◌, ◌++◌, Bool, true, false, not, ◌&&◌, Option, Some}
use Rattle.std.specs.Prelude.{None, Ok, Err, length, alloc_error, slice_get}
use Rattle.rtc_sdp_values.specs.declared.sdp.Sdp.{Sdp}
use Rattle.rtc_channels.specs.Channels.{AreRising}
use Rattle.rtc_change.specs.PendingOffer.{PendingOffer, new_channels}
use Rattle.rtc_peer_rows.specs.RowChanges.{media_mid}
use Rattle.rtc_peer_core.specs.declared.rtc_error.RtcError.TheVariants.{Sdp as SdpRefused, BadChannel, Alloc as PeerAlloc}
use Rattle.rtc_peer_core.specs.Meanings.{Meanings}
use Rattle.rtc_peer_core.specs.Stance.{Stance}
use Rattle.rtc_peer_core.specs.Staging.{lacks_app}
use Rattle.rtc_peer_core.proofs.StanceTaken.{StanceAcceptsOffer, StanceAcceptsAnswer}
use Rattle.rtc_peer_core.proofs.StanceCalls.{StanceAddsMedia, StanceSetsDirection, StanceStopsMedia, StanceAddsChannel, StanceStagesRestart, StanceApplies}
use Rattle.rtc_peer_core.proofs.StanceRollbacks.{StanceRollsBack}
use Rattle.rtc_peer_polling.specs.Numbers.{AreUnconfirmed}
use Rattle.rtc_run_history.specs.Signalled.{Signalled, NotMade, Unreadable, Readable, foreign}
use Rattle.rtc_sdp_values.specs.declared.sdp_error.SdpError.TheVariants.{Parse}
use Rattle.rtc_run_history.specs.declared.side.Side.{Side}
use Rattle.rtc_run_history.specs.declared.op.Op.{Op}
use Rattle.rtc_run_history.specs.declared.op.Op.TheVariants.{AddMedia, SetDirection, StopMedia, AddChannel, IceRestart}
use Rattle.rtc_run_history.specs.declared.step.Step.{Step}
use Rattle.rtc_run_history.specs.declared.step.Step.TheVariants.{Negotiate, AcceptOffer, AcceptAnswer, Time, Datagram, Poll, Drain, Write, CloseChannel, Close, Rollback, ForeignOffer, ForeignAnswer, Raw}
use Rattle.rtc_run_history.specs.declared.op_answer.OpAnswer.{OpAnswer}
use Rattle.rtc_run_history.specs.declared.op_answer.OpAnswer.TheVariants.{Mid, Changed, NoLine, Channel, Creds}
use Rattle.rtc_run_history.specs.declared.op_answer.OpAnswer.TheVariants.{BadChannel as NoChannel, Alloc as OpAlloc}
use Rattle.rtc_run_history.specs.declared.made.Made.{Made}
use Rattle.rtc_run_history.specs.declared.made.Made.TheVariants.{NotAsked, Nothing, Offer, Alloc as MadeAlloc}
use Rattle.rtc_run_history.specs.declared.outcome.Outcome.{Outcome}
use Rattle.rtc_run_history.specs.declared.outcome.Outcome.TheVariants.{Negotiated, Answered, Finished, Done, Refused, NoSuch, Alloc}
use Rattle.rtc_run_history.specs.declared.table.Table.{Table}
use Rattle.rtc_run_history.specs.declared.kept.Kept.{Kept}
use Rattle.rtc_run_history.specs.Memory.{answers_lack}
use Rattle.rtc_run_history.specs.Sides.{side_of, other_side}
use Rattle.rtc_run_history.specs.Sizes.{step_size}
use Rattle.rtc_run_history.specs.Past.{Entry, MadeSdp, numbers_in}
use Rattle.rtc_run_history.specs.Sound.{is_handled, is_heard, is_polled, is_written, is_channel_closed}
use Rattle.rtc_run_history.specs.Views.{Stances}
use Rattle.rtc_run_history.specs.PairState.{PairState, stances_of, kept_remote_sdp, held_token, spent}
use Rattle.rtc_run_history.specs.Performs.{CallsLine, kept_offer, kept_answer, wanted, sdps_behind}
use Rattle.rtc_run_history.specs.Undone.{channels_but}
use Rattle.rtc_run_laws.proofs.CancelledRows.{AreCancellable, numbers_of}
use Rattle.rtc_run_laws.proofs.NumberedChannels.{AreNumbered}

-- what negotiation reads of both sides, the SDPs of the pair, and its size
pub record PairStance : Type 0 where
  pub sides : Stances
  pub sdps : List Kept
  pub size : ℕ

abbrev pub pair_stance : {I D S M E X T W N : Type 0} → Meanings I D S M E X T W N → PairState I D S M N → PairStance
pair_stance m pair = record { sides = stances_of m pair; sdps = pair.sdps; size = pair.size }

-- the SDPs that a step made, in order
abbrev pub made_by : PairStance → PairStance → List MadeSdp
made_by old new = sdps_behind old.sdps new.sdps

abbrev pub lent : Stance → Stance
lent s = record s { staged = []; undo = [] }

-- whether channels that are staged need a line
abbrev pub needs_app : Stance → Bool
needs_app s = lacks_app s.lines s.staged

pub record StanceStays (old : Stance) (sdps : List Kept) (new : Stance) (sdps' : List Kept) : Type 0 where
  pub peer : new ≡ old
  pub sdps_kept : sdps' ≡ sdps

pub record StanceShows (table : Table) (s : Stance) : Type 0 where
  pub lines : table.lines ≡ s.lines
  pub channels : table.channels ≡ s.rows

abbrev pub StancePerformsOps : Stance → List Op → List OpAnswer → Stance → Type 0
StancePerformsOps p [] [] q = q ≡ p
StancePerformsOps p (AddMedia kind dir ∷ ops) (Mid mid ∷ answers) q =
    (r : Stance) × StanceAddsMedia p (wanted kind dir) (Ok mid) r × StancePerformsOps r ops answers q
StancePerformsOps p (AddMedia kind dir ∷ ops) (OpAlloc ∷ []) q = StanceAddsMedia p (wanted kind dir) (Err alloc_error) q
StancePerformsOps p (SetDirection place dir ∷ ops) (NoLine ∷ answers) q =
    (media_mid (slice_get p.lines place) ≡ None) × StancePerformsOps p ops answers q
StancePerformsOps p (SetDirection place dir ∷ ops) (Changed changed ∷ answers) q =
    (r : Stance) × CallsLine p.lines place (λ mid. StanceSetsDirection p mid dir (Ok changed) r) × StancePerformsOps r ops answers q
StancePerformsOps p (SetDirection place dir ∷ ops) (OpAlloc ∷ []) q =
    CallsLine p.lines place (λ mid. StanceSetsDirection p mid dir (Err alloc_error) q)
StancePerformsOps p (StopMedia place ∷ ops) (NoLine ∷ answers) q =
    (media_mid (slice_get p.lines place) ≡ None) × StancePerformsOps p ops answers q
StancePerformsOps p (StopMedia place ∷ ops) (Changed changed ∷ answers) q =
    (r : Stance) × CallsLine p.lines place (λ mid. StanceStopsMedia p mid (Ok changed) r) × StancePerformsOps r ops answers q
StancePerformsOps p (StopMedia place ∷ ops) (OpAlloc ∷ []) q = CallsLine p.lines place (λ mid. StanceStopsMedia p mid (Err alloc_error) q)
StancePerformsOps p (AddChannel config ∷ ops) (Channel id ∷ answers) q =
    (r : Stance) × StanceAddsChannel p config (Ok id) r × StancePerformsOps r ops answers q
StancePerformsOps p (AddChannel config ∷ ops) (NoChannel ∷ answers) q =
    (r : Stance) × StanceAddsChannel p config (Err BadChannel) r × StancePerformsOps r ops answers q
StancePerformsOps p (AddChannel config ∷ ops) (OpAlloc ∷ []) q = StanceAddsChannel p config (Err PeerAlloc) q
StancePerformsOps p (IceRestart keep ∷ ops) (Creds creds ∷ answers) q =
    (r : Stance) × StanceStagesRestart p keep (Ok creds) r × StancePerformsOps r ops answers q
StancePerformsOps p (IceRestart keep ∷ ops) (OpAlloc ∷ []) q = StanceStagesRestart p keep (Err alloc_error) q
StancePerformsOps p ops answers q = ⊥

abbrev pub StanceMakesOf : Bool → Side → Stance → List Kept → Made → Stance → List Kept → Type 0
StanceMakesOf false at p sdps NotAsked q sdps' = (q ≡ p) × (sdps' ≡ sdps)
StanceMakesOf true at p sdps Nothing q sdps' = StanceApplies p (Ok None) q × (sdps' ≡ sdps)
StanceMakesOf true at p sdps (Offer k) q sdps' =
    (made : Sdp × PendingOffer) × StanceApplies p (Ok (Some made)) q × (sdps' ≡ sdps ++ kept_offer at made ∷ []) × (k ≡ length sdps)
StanceMakesOf true at p sdps MadeAlloc q sdps' = StanceApplies p (Err alloc_error) q × (sdps' ≡ sdps)
StanceMakesOf asked at p sdps made q sdps' = ⊥

abbrev pub StanceNegotiates : {E : Type 0} → Side → List Op → Bool → Stance → List Kept → Outcome E → Option Table → Stance → List Kept → Type 0
StanceNegotiates at ops apply old sdps Alloc None new sdps' = StanceStays old sdps new sdps'
StanceNegotiates at ops apply old sdps (Negotiated answers made) (Some table) new sdps' =
    (p : Stance)
    × StancePerformsOps (lent old) ops answers p
    × StanceMakesOf (apply && not (answers_lack answers)) at p sdps made new sdps'
    × StanceShows table new
StanceNegotiates at ops apply old sdps outcome table new sdps' = ⊥

abbrev pub StanceStepAcceptsOffer : {E : Type 0} → Side → Signalled → Stance → List Kept → Outcome E → Option Table → Stance → List Kept → Type 0
StanceStepAcceptsOffer at offer old sdps Alloc None new sdps' = StanceStays old sdps new sdps'
StanceStepAcceptsOffer at NotMade old sdps NoSuch (Some table) new sdps' = StanceStays old sdps new sdps' × StanceShows table old
StanceStepAcceptsOffer at (Unreadable line) old sdps (Refused error) (Some table) new sdps' =
    (error ≡ SdpRefused (Parse line)) × StanceStays old sdps new sdps' × StanceShows table old
StanceStepAcceptsOffer at (Readable sdp) old sdps (Answered k) (Some table) new sdps' =
    (answer : Sdp)
    × StanceAcceptsOffer (lent old) sdp (Ok answer) new
    × (sdps' ≡ sdps ++ kept_answer at answer ∷ [])
    × (k ≡ length sdps)
    × StanceShows table new
StanceStepAcceptsOffer at (Readable sdp) old sdps (Refused error) (Some table) new sdps' =
    StanceAcceptsOffer (lent old) sdp (Err error) new
    × (sdps' ≡ sdps)
    × StanceShows table new
StanceStepAcceptsOffer at offer old sdps outcome table new sdps' = ⊥

abbrev pub StanceStepAcceptsAnswer : {E : Type 0} → ℕ → Option PendingOffer → Signalled → Stance → List Kept → Outcome E → Option Table → Stance
    → List Kept → Type 0
StanceStepAcceptsAnswer t token answer old sdps Alloc None new sdps' = StanceStays old sdps new sdps'
StanceStepAcceptsAnswer t None answer old sdps NoSuch (Some table) new sdps' = StanceStays old sdps new sdps' × StanceShows table old
StanceStepAcceptsAnswer t (Some token) NotMade old sdps NoSuch (Some table) new sdps' = StanceStays old sdps new sdps' × StanceShows table old
StanceStepAcceptsAnswer t (Some token) (Unreadable line) old sdps (Refused error) (Some table) new sdps' =
    (error ≡ SdpRefused (Parse line)) × StanceStays old sdps new sdps' × StanceShows table old
StanceStepAcceptsAnswer t (Some token) (Readable sdp) old sdps Finished (Some table) new sdps' =
    StanceAcceptsAnswer (lent old) token sdp (Ok tt) new
    × (sdps' ≡ spent t sdps)
    × StanceShows table new
StanceStepAcceptsAnswer t (Some token) (Readable sdp) old sdps (Refused error) (Some table) new sdps' =
    StanceAcceptsAnswer (lent old) token sdp (Err error) new
    × (sdps' ≡ spent t sdps)
    × StanceShows table new
StanceStepAcceptsAnswer t token answer old sdps outcome table new sdps' = ⊥

-- Where the numbers of channels rise and none of those of a token was confirmed, the rows that a rollback leaves are those of other channels.
abbrev pub LeavesRows : PendingOffer → Stance → Stance → Type 0
LeavesRows token old new =
    AreRising 0 old.channels.rows → AreCancellable (new_channels token.changes) old.channels.rows
    → new.rows ≡ channels_but (numbers_of (new_channels token.changes)) old.rows

abbrev pub StanceStepRollsBack : {E : Type 0} → ℕ → Option PendingOffer → Stance → List Kept → Outcome E → Option Table → Stance → List Kept → Type 0
StanceStepRollsBack t token old sdps Alloc None new sdps' = StanceStays old sdps new sdps'
StanceStepRollsBack t None old sdps NoSuch (Some table) new sdps' = StanceStays old sdps new sdps' × StanceShows table old
StanceStepRollsBack t (Some token) old sdps Done (Some table) new sdps' =
    StanceRollsBack (lent old) token (Ok tt) new
    × LeavesRows token old new
    × (sdps' ≡ spent t sdps)
    × StanceShows table new
StanceStepRollsBack t (Some token) old sdps (Refused error) (Some table) new sdps' =
    StanceRollsBack (lent old) token (Err error) new
    × (sdps' ≡ spent t sdps)
    × StanceShows table new
StanceStepRollsBack t token old sdps outcome table new sdps' = ⊥

-- what is shown of a step that negotiates nothing: that memory ran out and nothing changed, or an outcome that it may have, and the table
abbrev pub RestTold : {E : Type 0} → (Outcome E → Bool) → Stance → Outcome E → Option Table → Stance → Type 0
RestTold may old outcome None new = (outcome ≡ Alloc) × (new ≡ old)
RestTold may old outcome (Some table) new = (may outcome ≡ true) × StanceShows table new

-- a step that negotiates nothing, an input, polls, a write or a close: it changes nothing but channels, confirms none, and tells the numbers
-- that it gives
pub record StanceRests {E : Type 0} (may : Outcome E → Bool) (old : Stance) (sdps : List Kept) (outcome : Outcome E) (table : Option Table)
    (new : Stance) (sdps' : List Kept) : Type 0 where
  pub peer : new ≡ record old { channels = new.channels; rows = new.rows }
  pub sdps_kept : sdps' ≡ sdps
  pub numbered : AreNumbered (numbers_in outcome) old.channels new.channels
  pub unconfirmed : (id : ℕ) → AreUnconfirmed id old.channels.rows → AreUnconfirmed id new.channels.rows
  pub told : RestTold may old outcome table new

abbrev pub StanceActs : {E : Type 0} → Step → Stance → List Kept → Outcome E → Option Table → Stance → List Kept → Type 0
StanceActs (Negotiate at ops apply) old sdps outcome table new sdps' = StanceNegotiates at ops apply old sdps outcome table new sdps'
StanceActs (AcceptOffer at offer) old sdps outcome table new sdps' =
    StanceStepAcceptsOffer at (kept_remote_sdp true sdps at offer) old sdps outcome table new sdps'
StanceActs (AcceptAnswer at token answer) old sdps outcome table new sdps' =
    StanceStepAcceptsAnswer token (held_token sdps at token) (kept_remote_sdp false sdps at answer) old sdps outcome table new sdps'
StanceActs (Time at now) old sdps outcome table new sdps' = StanceRests is_handled old sdps outcome table new sdps'
StanceActs (Datagram at packet now) old sdps outcome table new sdps' = StanceRests is_heard old sdps outcome table new sdps'
StanceActs (Poll at) old sdps outcome table new sdps' = StanceRests is_polled old sdps outcome table new sdps'
StanceActs (Drain at) old sdps outcome table new sdps' = StanceRests is_polled old sdps outcome table new sdps'
StanceActs (Write at channel binary bytes) old sdps outcome table new sdps' = StanceRests is_written old sdps outcome table new sdps'
StanceActs (CloseChannel at channel) old sdps outcome table new sdps' = StanceRests is_channel_closed old sdps outcome table new sdps'
StanceActs (Close at) old sdps outcome table new sdps' = StanceRests is_handled old sdps outcome table new sdps'
StanceActs (Rollback at token) old sdps outcome table new sdps' =
    StanceStepRollsBack token (held_token sdps at token) old sdps outcome table new sdps'
StanceActs (ForeignOffer at text) old sdps outcome table new sdps' =
    StanceStepAcceptsOffer at (foreign text) old sdps outcome table new sdps'
StanceActs (ForeignAnswer at token text) old sdps outcome table new sdps' =
    StanceStepAcceptsAnswer token (held_token sdps at token) (foreign text) old sdps outcome table new sdps'
StanceActs (Raw at bytes now) old sdps outcome table new sdps' = StanceRests is_handled old sdps outcome table new sdps'

pub record StancePerforms {E : Type 0} (old : PairStance) (step : Step) (outcome : Outcome E) (table : Option Table) (new : PairStance) : Type 0 where
  pub acts : StanceActs step (old.sides (side_of step)) old.sdps outcome table (new.sides (side_of step)) new.sdps
  pub other : new.sides (other_side (side_of step)) ≡ old.sides (other_side (side_of step))
  pub size : new.size ≡ old.size + step_size step

pub record StanceEnters {E : Type 0} (old : PairStance) (entry : Entry E) (new : PairStance) : Type 0 where
  pub performs : StancePerforms old entry.step entry.outcome entry.table new
  pub made : entry.made ≡ made_by old new
