-- Formed peers stay formed in each step, and each SDP that they make is legible, so that it is read back.
use Rattle.std.proofs.Common.{◌≡◌, ℕ, List, [], ◌∷◌, Bool, true, false, not, ◌&&◌, Option, Some, None, Result, Ok, Err, refl, sym, ap, subst}
use Rattle.std.specs.Prelude.{alloc_error, IfSome}
use Rattle.rtc_sdp_values.specs.declared.direction.Direction.TheVariants.{Inactive}
use Rattle.rtc_sdp_values.specs.declared.sdp.Sdp.{Sdp}
use Rattle.rtc_sdp_reader.specs.Reading.{reading}
use Rattle.rtc_sdp_writer.specs.Plain.{IsLegible}
use Rattle.rtc_change.specs.PendingOffer.{PendingOffer}
use Rattle.rtc_peer_rows.specs.RowChanges.{directed_row, stopped_row}
use Rattle.rtc_peer_rows.proofs.RowChangeLemmas.{directed_row_keeps, stopped_row_keeps}
use Rattle.rtc_peer_core.specs.Stance.{Stance}
use Rattle.rtc_peer_core.specs.Meanings.{Meanings, PartsLaws}
use Rattle.rtc_peer_core.specs.declared.rtc_error.RtcError.TheVariants.{BadChannel, Alloc as PeerAlloc}
use Rattle.rtc_peer_core.specs.Formed.{AreFormedChanges, IsFormed}
use Rattle.rtc_peer_core.specs.SdpHalves.{answer_init}
use Rattle.rtc_peer_core.proofs.FormedHeads.{answer_init_text}
use Rattle.rtc_peer_core.proofs.FormedAcceptances.{offered_formed, answered_formed}
use Rattle.rtc_peer_core.proofs.FormedStances.{
  lent_formed,
  adds_media_formed,
  adds_channel_formed,
  changes_line_formed,
  stages_restart_formed,
  applies_formed,
  made_changes,
}
use Rattle.rtc_peer_core.proofs.StanceRollbacks.{rolled_back_formed}
use Rattle.rtc_run_history.specs.declared.side.Side.{Side}
use Rattle.rtc_run_history.specs.declared.op.Op.{Op}
use Rattle.rtc_run_history.specs.declared.op.Op.TheVariants.{AddMedia, SetDirection, StopMedia, AddChannel, IceRestart}
use Rattle.rtc_run_history.specs.declared.op_answer.OpAnswer.{OpAnswer}
use Rattle.rtc_run_history.specs.declared.op_answer.OpAnswer.TheVariants.{Mid, Changed, NoLine, Channel, BadChannel as NoChannel, Creds, Alloc as OpAlloc}
use Rattle.rtc_run_history.specs.declared.made.Made.{Made}
use Rattle.rtc_run_history.specs.declared.made.Made.TheVariants.{NotAsked, Nothing, Offer, Alloc as MadeAlloc}
use Rattle.rtc_run_history.specs.declared.step.Step.{Step}
use Rattle.rtc_run_history.specs.declared.step.Step.TheVariants.{Negotiate, AcceptOffer, AcceptAnswer, Time, Datagram, Poll, Drain, Write, CloseChannel, Close, Rollback, ForeignOffer, ForeignAnswer, Raw}
use Rattle.rtc_run_history.specs.declared.outcome.Outcome.{Outcome}
use Rattle.rtc_run_history.specs.declared.outcome.Outcome.TheVariants.{Negotiated, Answered, Finished, Done, Refused, NoSuch, Alloc}
use Rattle.rtc_run_history.specs.declared.table.Table.{Table}
use Rattle.rtc_run_history.specs.declared.reply.Reply.{Reply}
use Rattle.rtc_run_history.specs.declared.kept.Kept.{Kept}
use Rattle.rtc_run_history.specs.Memory.{answers_lack}
use Rattle.rtc_run_history.specs.Past.{Entry}
use Rattle.rtc_run_history.specs.Sides.{side_of, other_side}
use Rattle.rtc_run_history.specs.Signalled.{Signalled, NotMade, Unreadable, Readable, AllReadBack, arrival, foreign}
use Rattle.rtc_run_history.specs.SoundEntry.{AreReadBack}
use Rattle.rtc_run_history.specs.Fresh.{IsFresh, ArePeersFormed}
use Rattle.rtc_run_history.specs.PairState.{PairState, kept_remote_sdp, held_token}
use Rattle.rtc_run_history.specs.Performs.{kept_offer, kept_answer, wanted}
use Rattle.rtc_run_history.specs.Runs.{Runs}
use Rattle.rtc_run_history.specs.Views.{AreFormed}
use Rattle.rtc_run_history.proofs.BothSides.{both_sides}
use Rattle.rtc_run_laws.proofs.LegibleSdps.{
  AreLegible,
  CanBeTaken,
  spent_legible,
  remote_taken,
  legible_read_back,
  behind_read_back,
  push_legible,
  token_changes,
}
use Rattle.rtc_run_laws.proofs.ReadTaken.{read_lines_taken, read_names_tokens}
use Rattle.rtc_run_laws.proofs.PlainSdps.{offer_legible, answer_legible}
use Rattle.rtc_run_laws.proofs.StanceSteps.{
  PairStance,
  StanceMakesOf,
  StancePerformsOps,
  StanceNegotiates,
  StanceStepAcceptsOffer,
  StanceStepAcceptsAnswer,
  StanceStepRollsBack,
  StanceActs,
  StancePerforms,
  StanceEnters,
  lent,
  made_by,
  pair_stance,
}
use Rattle.rtc_run_laws.proofs.StanceRuns.{StanceReached, StanceRan, fresh_unused, ran_stands, ran_reached}

-- ---- what the acting peer does

ops_formed : (p q : Stance) (ops : List Op) (answers : List OpAnswer) → StancePerformsOps p ops answers q → IsFormed p → IsFormed q
ops_formed p q [] [] h formed = rw h formed
ops_formed p q (AddMedia kind dir ∷ ops) (Mid mid ∷ answers) h formed = ops_formed h.0 q ops answers h.2 (adds_media_formed p (wanted kind dir) (Ok mid) h.0 h.1 tt formed)
ops_formed p q (AddMedia kind dir ∷ ops) (OpAlloc ∷ []) h formed = adds_media_formed p (wanted kind dir) (Err alloc_error) q h tt formed
ops_formed p q (SetDirection place dir ∷ ops) (NoLine ∷ answers) h formed = ops_formed p q ops answers h.1 formed
ops_formed p q (SetDirection place dir ∷ ops) (Changed changed ∷ answers) h formed =
    ops_formed h.0 q ops answers h.2 (changes_line_formed (directed_row dir) dir p h.1.mid (Ok changed) h.0 (directed_row_keeps dir) h.1.called formed)
ops_formed p q (SetDirection place dir ∷ ops) (OpAlloc ∷ []) h formed = changes_line_formed (directed_row dir) dir p h.mid (Err alloc_error) q (directed_row_keeps dir) h.called formed
ops_formed p q (StopMedia place ∷ ops) (NoLine ∷ answers) h formed = ops_formed p q ops answers h.1 formed
ops_formed p q (StopMedia place ∷ ops) (Changed changed ∷ answers) h formed =
    ops_formed h.0 q ops answers h.2 (changes_line_formed stopped_row Inactive p h.1.mid (Ok changed) h.0 stopped_row_keeps h.1.called formed)
ops_formed p q (StopMedia place ∷ ops) (OpAlloc ∷ []) h formed = changes_line_formed stopped_row Inactive p h.mid (Err alloc_error) q stopped_row_keeps h.called formed
ops_formed p q (AddChannel config ∷ ops) (Channel id ∷ answers) h formed = ops_formed h.0 q ops answers h.2 (adds_channel_formed p config (Ok id) h.0 h.1 formed)
ops_formed p q (AddChannel config ∷ ops) (NoChannel ∷ answers) h formed = ops_formed h.0 q ops answers h.2 (adds_channel_formed p config (Err BadChannel) h.0 h.1 formed)
ops_formed p q (AddChannel config ∷ ops) (OpAlloc ∷ []) h formed = adds_channel_formed p config (Err PeerAlloc) q h formed
ops_formed p q (IceRestart keep ∷ ops) (Creds creds ∷ answers) h formed = ops_formed h.0 q ops answers h.2 (stages_restart_formed p keep (Ok creds) h.0 h.1 formed)
ops_formed p q (IceRestart keep ∷ ops) (OpAlloc ∷ []) h formed = stages_restart_formed p keep (Err alloc_error) q h formed
ops_formed p q ops answers h formed = absurd h

-- a side that is lent for a step
lends_formed : (s : Stance) → IsFormed s → IsFormed (lent s)
lends_formed s formed =
    let bare = lent_formed s s.snap formed in
    record {
      session = bare.session;
      creds = bare.creds;
      candidates = bare.candidates;
      fingerprint = bare.fingerprint;
      rows = bare.rows;
      staged = bare.staged;
      changes = bare.changes;
      formats = bare.formats;
      media = bare.media;
      size = bare.size;
    }

makes_formed : (asked : Bool) (at : Side) (p q : Stance) (kept kept' : List Kept) (made : Made) → StanceMakesOf asked at p kept made q kept' → IsFormed p → AreLegible kept → IsFormed q × AreLegible kept'
makes_formed false at p q kept kept' NotAsked h formed legible = (rw h.0 formed, rw h.1 legible)
makes_formed true at p q kept kept' Nothing h formed legible = (applies_formed p (Ok None) q h.0 formed, rw h.1 legible)
makes_formed true at p q kept kept' MadeAlloc h formed legible = (rw h.0 formed, rw h.1 legible)
makes_formed true at p q kept kept' (Offer k) h formed legible = (
  applies_formed p (Ok (Some h.0)) q h.1 formed,
  push_legible kept kept' (kept_offer at h.0) h.2 (record { legible = subst IsLegible (sym h.1.offered) (offer_legible p h.1.half formed); changes = made_changes p h.0 q h.1 formed }) legible,
)
makes_formed asked at p q kept kept' made h formed legible = absurd h

negotiates_formed : {E : Type 0} → (at : Side) (ops : List Op) (apply : Bool) (old new : Stance) (kept kept' : List Kept) (outcome : Outcome E) (table : Option Table)
    → StanceNegotiates at ops apply old kept outcome table new kept' → IsFormed old → AreLegible kept → IsFormed new × AreLegible kept'
negotiates_formed at ops apply old new kept kept' Alloc None h formed legible = (rw h.peer formed, rw h.sdps_kept legible)
negotiates_formed at ops apply old new kept kept' (Negotiated answers made) (Some table) h formed legible =
    makes_formed (apply && not (answers_lack answers)) at h.0 new kept kept' made h.2 (ops_formed (lent old) h.0 ops answers h.1 (lends_formed old formed)) legible
negotiates_formed at ops apply old new kept kept' outcome table h formed legible = absurd h

offer_formed : {E : Type 0} → (at : Side) (offer : Signalled) (old new : Stance) (kept kept' : List Kept) (outcome : Outcome E) (table : Option Table)
    → StanceStepAcceptsOffer at offer old kept outcome table new kept' → ((sdp : Sdp) → offer ≡ Readable sdp → CanBeTaken sdp) → IsFormed old
    → AreLegible kept → IsFormed new × AreLegible kept'
offer_formed at NotMade old new kept kept' Alloc None h taken formed legible = (rw h.peer formed, rw h.sdps_kept legible)
offer_formed at (Unreadable line) old new kept kept' Alloc None h taken formed legible = (rw h.peer formed, rw h.sdps_kept legible)
offer_formed at (Readable sdp) old new kept kept' Alloc None h taken formed legible = (rw h.peer formed, rw h.sdps_kept legible)
offer_formed at NotMade old new kept kept' NoSuch (Some table) h taken formed legible = (rw h.0.peer formed, rw h.0.sdps_kept legible)
offer_formed at (Unreadable line) old new kept kept' (Refused error) (Some table) h taken formed legible =
    (rw h.1.peer formed, rw h.1.sdps_kept legible)
offer_formed at (Readable sdp) old new kept kept' (Answered n) (Some table) h taken formed legible =
    let its = taken sdp refl in
    let lent_is : IsFormed (lent old) = lends_formed old formed in
    let updates = h.1.tells.formed lent_is tt its.names its.lines in
    let whole : IsLegible h.0 =
    subst IsLegible (sym h.1.answered)
    (answer_legible (lent old) h.1.restart h.1.told (answer_init old.inited old.snap h.1.halves) sdp h.1.followed.tokens
    (answer_init_text old.inited old.snap h.1.halves) lent_is its.names updates) in (
      offered_formed (lent old) sdp (Ok h.0) new h.1 its.names its.lines lent_is,
      push_legible kept kept' (kept_answer at h.0) h.2 (record { legible = whole; changes = tt }) legible,
    )
offer_formed at (Readable sdp) old new kept kept' (Refused error) (Some table) h taken formed legible =
    let its = taken sdp refl in
    (offered_formed (lent old) sdp (Err error) new h.0 its.names its.lines (lends_formed old formed), rw h.1 legible)
offer_formed at offer old new kept kept' outcome table h taken formed legible = absurd h

answer_formed : {E : Type 0} → (t : ℕ) (token : Option PendingOffer) (answer : Signalled) (old new : Stance) (kept kept' : List Kept)
    (outcome : Outcome E) (table : Option Table) → StanceStepAcceptsAnswer t token answer old kept outcome table new kept'
    → ((sdp : Sdp) → answer ≡ Readable sdp → CanBeTaken sdp) → IfSome token (λ one. AreFormedChanges one.changes) → IsFormed old
    → AreLegible kept → IsFormed new × AreLegible kept'
answer_formed t None NotMade old new kept kept' Alloc None h taken changes formed legible = (rw h.peer formed, rw h.sdps_kept legible)
answer_formed t None (Unreadable line) old new kept kept' Alloc None h taken changes formed legible = (rw h.peer formed, rw h.sdps_kept legible)
answer_formed t None (Readable sdp) old new kept kept' Alloc None h taken changes formed legible = (rw h.peer formed, rw h.sdps_kept legible)
answer_formed t (Some token) NotMade old new kept kept' Alloc None h taken changes formed legible = (rw h.peer formed, rw h.sdps_kept legible)
answer_formed t (Some token) (Unreadable line) old new kept kept' Alloc None h taken changes formed legible =
    (rw h.peer formed, rw h.sdps_kept legible)
answer_formed t (Some token) (Readable sdp) old new kept kept' Alloc None h taken changes formed legible =
    (rw h.peer formed, rw h.sdps_kept legible)
answer_formed t None NotMade old new kept kept' NoSuch (Some table) h taken changes formed legible =
    (rw h.0.peer formed, rw h.0.sdps_kept legible)
answer_formed t None (Unreadable line) old new kept kept' NoSuch (Some table) h taken changes formed legible =
    (rw h.0.peer formed, rw h.0.sdps_kept legible)
answer_formed t None (Readable sdp) old new kept kept' NoSuch (Some table) h taken changes formed legible =
    (rw h.0.peer formed, rw h.0.sdps_kept legible)
answer_formed t (Some token) NotMade old new kept kept' NoSuch (Some table) h taken changes formed legible =
    (rw h.0.peer formed, rw h.0.sdps_kept legible)
answer_formed t (Some token) (Unreadable line) old new kept kept' (Refused error) (Some table) h taken changes formed legible =
    (rw h.1.peer formed, rw h.1.sdps_kept legible)
answer_formed t (Some token) (Readable sdp) old new kept kept' Finished (Some table) h taken changes formed legible =
    let its = taken sdp refl in (
      answered_formed (lent old) token sdp (Ok tt) new h.0 changes its.names its.lines (lends_formed old formed),
      rw h.1 (spent_legible t kept legible),
    )
answer_formed t (Some token) (Readable sdp) old new kept kept' (Refused error) (Some table) h taken changes formed legible =
    let its = taken sdp refl in (
      answered_formed (lent old) token sdp (Err error) new h.0 changes its.names its.lines (lends_formed old formed),
      rw h.1 (spent_legible t kept legible),
    )
answer_formed t token answer old new kept kept' outcome table h taken changes formed legible = absurd h

roll_formed : {E : Type 0} → (t : ℕ) (token : Option PendingOffer) (old new : Stance) (kept kept' : List Kept) (outcome : Outcome E) (table : Option Table) → StanceStepRollsBack t token old kept outcome table new kept'
    → IsFormed old → AreLegible kept → IsFormed new × AreLegible kept'
roll_formed t None old new kept kept' Alloc None h formed legible = (rw h.peer formed, rw h.sdps_kept legible)
roll_formed t (Some token) old new kept kept' Alloc None h formed legible = (rw h.peer formed, rw h.sdps_kept legible)
roll_formed t None old new kept kept' NoSuch (Some table) h formed legible = (rw h.0.peer formed, rw h.0.sdps_kept legible)
roll_formed t (Some token) old new kept kept' Done (Some table) h formed legible =
    (rolled_back_formed (lent old) token (Ok tt) new h.0 (lends_formed old formed), rw h.2 (spent_legible t kept legible))
roll_formed t (Some token) old new kept kept' (Refused error) (Some table) h formed legible =
    (rolled_back_formed (lent old) token (Err error) new h.0 (lends_formed old formed), rw h.1 (spent_legible t kept legible))
roll_formed t token old new kept kept' outcome table h formed legible = absurd h

-- what is read of a text that anybody wrote can be taken
read_of : (read : Result Sdp ℕ) (sdp : Sdp) → arrival read ≡ Readable sdp → read ≡ Ok sdp
read_of (Ok other) sdp is = let e : Readable other ≡ Readable sdp = is in ap (λ (s : Sdp). Ok s) (let f : other ≡ sdp = cc in f)
read_of (Err line) sdp is = absurd (let e : Unreadable line ≡ Readable sdp = is in cc)

foreign_taken : (text : List ℕ) (sdp : Sdp) → foreign text ≡ Readable sdp → CanBeTaken sdp
unfolding foreign
foreign_taken text sdp is =
    let read : reading text ≡ Ok sdp = read_of (reading text) sdp is in
    record { names = read_names_tokens text sdp read; lines = read_lines_taken text sdp read }

-- a side that changes nothing but channels
rest_formed : (old new : Stance) → new ≡ record old { channels = new.channels; rows = new.rows } → IsFormed old → IsFormed new
rest_formed old new rest formed =
    subst IsFormed (sym rest) (record {
      session = formed.session;
      creds = formed.creds;
      candidates = formed.candidates;
      fingerprint = formed.fingerprint;
      rows = formed.rows;
      staged = formed.staged;
      changes = formed.changes;
      formats = formed.formats;
      media = formed.media;
      size = formed.size;
    })

acts_formed : {E : Type 0} → (step : Step) (old new : Stance) (kept kept' : List Kept) (outcome : Outcome E) (table : Option Table)
    → StanceActs step old kept outcome table new kept' → IsFormed old → AreLegible kept → IsFormed new × AreLegible kept'
acts_formed (Negotiate at ops apply) old new kept kept' outcome table acts formed legible =
    negotiates_formed at ops apply old new kept kept' outcome table acts formed legible
acts_formed (AcceptOffer at k) old new kept kept' outcome table acts formed legible =
    offer_formed at (kept_remote_sdp true kept at k) old new kept kept' outcome table acts (λ sdp is. remote_taken true kept at k sdp is legible) formed legible
acts_formed (AcceptAnswer at t a) old new kept kept' outcome table acts formed legible =
    answer_formed t (held_token kept at t) (kept_remote_sdp false kept at a) old new kept kept' outcome table acts (λ sdp is. remote_taken false kept at a sdp is legible) (token_changes kept at t legible) formed legible
acts_formed (Rollback at t) old new kept kept' outcome table acts formed legible = roll_formed t (held_token kept at t) old new kept kept' outcome table acts formed legible
acts_formed (ForeignOffer at text) old new kept kept' outcome table acts formed legible =
    offer_formed at (foreign text) old new kept kept' outcome table acts (λ sdp is. foreign_taken text sdp is) formed legible
acts_formed (ForeignAnswer at t text) old new kept kept' outcome table acts formed legible =
    answer_formed t (held_token kept at t) (foreign text) old new kept kept' outcome table acts (λ sdp is. foreign_taken text sdp is) (token_changes kept at t legible) formed legible
acts_formed (Raw at bytes now) old new kept kept' outcome table acts formed legible = (rest_formed old new acts.peer formed, rw acts.sdps_kept legible)
acts_formed (Time at now) old new kept kept' outcome table acts formed legible = (rest_formed old new acts.peer formed, rw acts.sdps_kept legible)
acts_formed (Datagram at packet now) old new kept kept' outcome table acts formed legible = (rest_formed old new acts.peer formed, rw acts.sdps_kept legible)
acts_formed (Poll at) old new kept kept' outcome table acts formed legible = (rest_formed old new acts.peer formed, rw acts.sdps_kept legible)
acts_formed (Drain at) old new kept kept' outcome table acts formed legible = (rest_formed old new acts.peer formed, rw acts.sdps_kept legible)
acts_formed (Write at channel binary bytes) old new kept kept' outcome table acts formed legible = (rest_formed old new acts.peer formed, rw acts.sdps_kept legible)
acts_formed (CloseChannel at channel) old new kept kept' outcome table acts formed legible = (rest_formed old new acts.peer formed, rw acts.sdps_kept legible)
acts_formed (Close at) old new kept kept' outcome table acts formed legible = (rest_formed old new acts.peer formed, rw acts.sdps_kept legible)

-- ---- all steps

-- both peers are formed, and their SDPs are legible
pub record IsWellFormed (pair : PairStance) : Type 0 where
  pub sides : (at : Side) → IsFormed (pair.sides at)
  pub legible : AreLegible pair.sdps

pub performs_formed : {E : Type 0} → (old new : PairStance) (step : Step) (outcome : Outcome E) (table : Option Table) → StancePerforms old step outcome table new → IsWellFormed old → IsWellFormed new
performs_formed old new step outcome table performs formed =
    let at : Side = side_of step in
    let acts : IsFormed (new.sides at) × AreLegible new.sdps = acts_formed step (old.sides at) (new.sides at) old.sdps new.sdps outcome table performs.acts (formed.sides at) formed.legible in
    record {
      sides = both_sides (λ side. IsFormed (new.sides side)) at acts.0 (rw performs.other (formed.sides (other_side at)));
      legible = acts.1;
    }

-- A pair that is reached from formed peers is formed.
pub reached_formed : {E : Type 0} → (start pair : PairStance) (past : List (Entry E)) → start.sdps ≡ [] → AreFormed start.sides → StanceReached start past pair → IsWellFormed pair
reached_formed start pair [] none formed reached = let same : pair ≡ start = reached in rw same (record { sides = formed; legible = rw none tt })
reached_formed start pair (last ∷ past) none formed reached =
    let enters : StanceEnters reached.0 last pair = reached.2 in
    performs_formed reached.0 pair last.step last.outcome last.table enters.performs (reached_formed start reached.0 past none formed reached.1)

-- What a step makes in a pair of formed peers is read back.
pub makes_read_back : {E : Type 0} → (start old new : PairStance) (past : List (Entry E)) (step : Step) (outcome : Outcome E) (table : Option Table)
    → start.sdps ≡ [] → AreFormed start.sides → StanceReached start past old → StancePerforms old step outcome table new
    → AreReadBack (made_by old new)
makes_read_back start old new past step outcome table none formed reached performs =
    behind_read_back old.sdps new.sdps
    (performs_formed old new step outcome table performs (reached_formed start old past none formed reached)).legible

module _ {I D S M E X T W N : Type 0} (m : Meanings I D S M E X T W N) where
  -- the session descriptions of a run of formed peers are read back
  pub runs_read_back : (stun : List ℕ → Bool) → PartsLaws m → (start pair : PairState I D S M N) (steps : List Step) (replies : List (Reply E))
      → IsFresh m start → ArePeersFormed m start → Runs m stun start steps replies pair → AllReadBack pair.sdps
  runs_read_back stun laws start pair steps replies fresh formed run =
      let ran : StanceRan (pair_stance m start) run.past (pair_stance m pair) = ran_stands m stun laws start run.past pair (fresh_unused m laws start fresh) run.went in
      legible_read_back pair.sdps (reached_formed (pair_stance m start) (pair_stance m pair) run.past fresh.sdps formed (ran_reached (pair_stance m start) run.past (pair_stance m pair) ran)).legible
