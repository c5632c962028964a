-- Scripts that were run on the pair of the program.
use Rattle.std.proofs.Common.{◌≡◌, ◌⊎◌, inl, inr, ℕ, Bool, List, Option, Result, Ok, Err, IfOk, Vec, sym, subst}
use Rattle.std.specs.declared.alloc.Global.{Global}
use Rattle.rtc_run_laws.specs.Crossed.{CrossedOffersMeet}
use Rattle.rtc_run_laws.proofs.AcknowledgedSides.{run_acknowledges}
use Rattle.rtc_run_laws.proofs.ConnectedRuns.{run_connected}
use Rattle.rtc_run_laws.proofs.HandsRuns.{run_hands_out}
use Rattle.rtc_run_laws.proofs.SettlesRuns.{run_settles_open}
use Rattle.rtc_run.proofs.PlainFaults.{plain_unfaulted}
use Rattle.rtc_run.specs.ProgramPair.{counting, plain_parts, PlainPairState}
use Rattle.rtc_script.specs.declared.script.Script.{Script}
use Rattle.rtc_run_history.specs.declared.reply.Reply.{Reply}
use Rattle.rtc_run_history.specs.declared.step.Step.{Step}
use Rattle.rtc_plain_ice.specs.Messages.{is_ice_message}
use Rattle.rtc_plain_media.specs.declared.plain_media_event.PlainMediaEvent.{PlainMediaEvent}
use Rattle.rtc_io.proofs.Told.{breaks_off_as}
use Rattle.rtc_io.specs.Saying.{BreaksOff}
use Rattle.rtc_script_reports.specs.Report.{report}
use Rattle.rtc_run_history.specs.DrawnInRuns.{AllPlain, DrawsUnused, HaveNoLines}
use Rattle.rtc_run_history.specs.Fresh.{ArePeersFormed, IsFresh}
use Rattle.rtc_run_history.specs.Runs.{Runs}
use Rattle.rtc_run_history.specs.Signalled.{AllReadBack}
use Rattle.rtc_run_laws.specs.Drains.{AreUndriven, DrainsWithin}
use Rattle.rtc_script_reports.proofs.ToldReplies.{reports_tell}
use Rattle.rtc_pair.proofs.AnsweredScripts.{run_answered}
use Rattle.rtc_pair.proofs.ProgramDrains.{program_undriven}
use Rattle.rtc_pair.proofs.PrintedNames.{run_in_line}
use Rattle.rtc_pair.proofs.NewPairs.{program_new, program_no_lines}
use Rattle.rtc_pair.specs.Performed.{IsPairOf, IsReport, RanScript, KeepsReport, PerformsScript}

-- what is known of descriptions that are plain, by replies
abbrev pub KnowPlain : List Step → (start pair : PlainPairState) → List (Reply PlainMediaEvent) → Type 0
KnowPlain steps start pair told =
    (run : Runs plain_parts is_ice_message start steps told pair)
    → DrawsUnused plain_parts is_ice_message start steps told pair run
    → AllPlain pair.sdps

-- so it is of steps that are the same
pub known_of : {E : Type 0} (start pair : PlainPairState) (replies : Result (Vec (Reply PlainMediaEvent) Global) E) (steps steps' : List Step) → steps ≡ steps'
    → (HaveNoLines plain_parts start → IfOk replies (λ told. KnowPlain steps start pair told.items)) → HaveNoLines plain_parts start → IfOk replies (λ told. KnowPlain steps' start pair told.items)
known_of start pair replies steps steps' is known =
    subst (λ (x : List Step). HaveNoLines plain_parts start → IfOk replies (λ told. KnowPlain x start pair told.items)) is known

-- what is known of drains, by replies
abbrev pub KnowDrains : List Step → (start pair : PlainPairState) → List (Reply PlainMediaEvent) → Type 0
KnowDrains steps start pair told =
    (run : Runs plain_parts is_ice_message start steps told pair) → DrainsWithin plain_parts is_ice_message start run.past pair

-- so it is of steps that are the same
pub drains_of : {E : Type 0} (start pair : PlainPairState) (replies : Result (Vec (Reply PlainMediaEvent) Global) E) (steps steps' : List Step) → steps ≡ steps'
    → (AreUndriven plain_parts start → IfOk replies (λ told. KnowDrains steps start pair told.items)) → AreUndriven plain_parts start → IfOk replies (λ told. KnowDrains steps' start pair told.items)
drains_of start pair replies steps steps' is known =
    subst (λ (x : List Step). AreUndriven plain_parts start → IfOk replies (λ told. KnowDrains x start pair told.items)) is known

-- replies that are joined with the pair are those of the run
pub ran_joined : {E : Type 0} (alloc : Global) (script : Script) (start pair : PlainPairState) (replies : Result (Vec (Reply PlainMediaEvent) Global) E)
    (result : Result (PlainPairState × Vec (Reply PlainMediaEvent) Global) E) → IfOk result (λ joined. (joined.0 ≡ pair) × (replies ≡ Ok joined.1))
    → IsPairOf alloc script start → IsFresh plain_parts start → ArePeersFormed plain_parts start → IfOk replies (λ told. Runs plain_parts is_ice_message start script.steps told.items pair)
    → IfOk replies (λ told. AllReadBack pair.sdps) → (HaveNoLines plain_parts start → IfOk replies (λ told. KnowPlain script.steps start pair told.items))
    → CrossedOffersMeet plain_parts is_ice_message start → (AreUndriven plain_parts start → IfOk replies (λ told. KnowDrains script.steps start pair told.items))
    → IfOk result (λ ran. RanScript alloc script ran.1.items ran.0)
ran_joined {E = E} alloc script start pair replies (Ok (kept, told)) (kept_is, told_is) program fresh formed runs read_back plain crossed drains =
    let Q : Result (Vec (Reply PlainMediaEvent) Global) E → Type 0 = λ (r : Result (Vec (Reply PlainMediaEvent) Global) E). IfOk r (λ told. Runs plain_parts is_ice_message start script.steps told.items pair) in
    let U : Result (Vec (Reply PlainMediaEvent) Global) E → Type 0 = λ (r : Result (Vec (Reply PlainMediaEvent) Global) E). IfOk r (λ told. AllReadBack pair.sdps) in
    let V : Result (Vec (Reply PlainMediaEvent) Global) E → Type 0 = λ (r : Result (Vec (Reply PlainMediaEvent) Global) E). IfOk r (λ told. KnowPlain script.steps start pair told.items) in
    let ran : Runs plain_parts is_ice_message start script.steps told.items pair = subst Q told_is runs in
    let read : AllReadBack pair.sdps = subst U told_is read_back in
    let D : Result (Vec (Reply PlainMediaEvent) Global) E → Type 0 = λ (r : Result (Vec (Reply PlainMediaEvent) Global) E). IfOk r (λ told. KnowDrains script.steps start pair told.items) in
    let drained : KnowDrains script.steps start pair told.items = subst D told_is (drains (program_undriven alloc _ _ start program)) in
    let known : KnowPlain script.steps start pair told.items = subst V told_is (plain (program_no_lines alloc _ _ start program)) in
    subst (λ (left : PlainPairState). RanScript alloc script told.items left) (sym kept_is) (record {
      start = start;
      program = program;
      formed = formed;
      runs = ran;
      read_back = read;
      plain = λ drew. known ran drew;
      no_fault = plain_unfaulted start pair script.steps told.items ran;
      channels = λ native. run_hands_out counting is_ice_message start pair script.steps told.items (program_new alloc _ _ start program) native ran;
      settles = λ native. run_settles_open counting is_ice_message start pair script.steps told.items (program_new alloc _ _ start program) native ran;
      acknowledges = λ native. run_acknowledges counting is_ice_message start pair script.steps told.items (program_new alloc _ _ start program) native ran;
      connected = λ native. run_connected counting is_ice_message start pair script.steps told.items (program_new alloc _ _ start program) native ran;
      crossed = crossed;
      answered = run_answered plain_parts is_ice_message start pair script.steps told.items ran;
      in_line = run_in_line start pair script.steps told.items fresh ran;
      drains = drained ran;
    })
ran_joined alloc script start pair replies (Err error) joined program fresh formed runs read_back plain crossed drains = tt

-- a script was run, and its report was written
pub performs : (alloc : Global) (lacking : Bool) (script : Script) (replies : List (Reply PlainMediaEvent)) (pair : PlainPairState) (written written' : Option (List ℕ))
    (last : Option PlainPairState) → RanScript alloc script replies pair → KeepsReport lacking script.steps replies pair written written' last
    → PerformsScript alloc lacking script written written' last
performs alloc lacking script replies pair written written' last ran keeps = record { replies = replies; pair = pair; ran = ran; keeps = keeps; tells = reports_tell script.steps replies keeps.fit ran.answered ran.in_line }

pub performs_or : (alloc : Global) (lacking : Bool) (script : Script) (replies : List (Reply PlainMediaEvent)) (pair : PlainPairState) (written written' : Option (List ℕ))
    (last : Option PlainPairState) (R : Type 0) → RanScript alloc script replies pair → KeepsReport lacking script.steps replies pair written written' last ⊎ R
    → PerformsScript alloc lacking script written written' last ⊎ R
performs_or alloc lacking script replies pair written written' last R ran (inl keeps) =
    inl (performs alloc lacking script replies pair written written' last ran keeps)
performs_or alloc lacking script replies pair written written' last R ran (inr rest) = inr rest

-- a report that is broken off is that of the run
pub report_off : (alloc : Global) (script : Script) (replies : List (Reply PlainMediaEvent)) (pair : PlainPairState) (written written' : Option (List ℕ)) (faults faults' : ℕ)
    → RanScript alloc script replies pair → BreaksOff (λ text. text ≡ report script.steps replies) written written' faults faults'
    → BreaksOff (IsReport alloc script) written written' faults faults'
report_off alloc script replies pair written written' faults faults' ran off =
    let P : List ℕ → Type 0 = λ (text : List ℕ). text ≡ report script.steps replies in
    breaks_off_as P (IsReport alloc script) written written' faults faults' (λ text is. record { replies = replies; pair = pair; ran = ran; is = is }) off
