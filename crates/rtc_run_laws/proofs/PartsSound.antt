-- What each entry of a run tells of the parts of its pair, and what follows for all of its replies.
use Rattle.std.proofs.Common.{◌≡◌, ◌≤◌, ◌∙◌, List, [], ◌∷◌, ℕ, Bool, true, false, refl, sym, ap, arith}
use Rattle.std.proofs.lemmas.List.Folds.{list_any-append}
use Rattle.rtc_peer_core.specs.Meanings.{Meanings, PartsLaws}
use Rattle.rtc_peer_transport.specs.declared.polled_peer.PolledPeer.{PolledPeer}
use Rattle.rtc_run_history.specs.declared.side.Side.{Side}
use Rattle.rtc_run_history.specs.declared.reply.Reply.{Reply}
use Rattle.rtc_run_history.specs.declared.step.Step.{Step}
use Rattle.rtc_run_history.specs.Memory.{CountedPart, DtlsPart, AssociationPart, MediaPart, tells_fault_of, tells_fault, tell_fault}
use Rattle.rtc_run_history.specs.Past.{Entry, reply_of, replies_of}
use Rattle.rtc_run_history.specs.PairState.{addr_at, PairState, rtc_at, peer_at}
use Rattle.rtc_run_history.specs.Performs.{Enters}
use Rattle.rtc_run_history.specs.Runs.{Went, EntersSoundly, Runs}
use Rattle.rtc_run_history.specs.Sides.{side_of, other_side}
use Rattle.rtc_run_history.specs.SoundParts.{refuses_sdp, faults_of, faults_at, CountsFault, IsSoundOfParts}
use Rattle.rtc_run_history.proofs.BothSides.{both_sides}
use Rattle.rtc_run_laws.proofs.CountedFaults.{equal_below, rose_along}
use Rattle.rtc_run_laws.proofs.SideFaults.{IsSoundOfSide}
use Rattle.rtc_run_laws.proofs.SoundSides.{acts_side}

module _ {I D S M E X T W N : Type 0} (m : Meanings I D S M E X T W N) (stun : List ℕ → Bool) where
  -- The entry of a step that is performed is sound of the parts.
  pub parts_sound : PartsLaws m → (old : PairState I D S M N) (last : Entry E) (new : PairState I D S M N) → Enters m stun old last new → IsSoundOfParts m old last new
  parts_sound laws old last new enters =
      let acts : IsSoundOfSide m laws (peer_at (side_of last.step) old) (refuses_sdp last.step last.outcome) last.outcome (peer_at (side_of last.step) new) =
      acts_side m laws stun (addr_at (other_side (side_of last.step)) old) (addr_at (side_of last.step) old) last.step (rtc_at (side_of last.step) old) old.sdps old.packets last.outcome last.table (rtc_at (side_of last.step) new) new.sdps new.packets enters.performs.acts in
      let same : (part : CountedPart) → faults_at m part (other_side (side_of last.step)) new ≡ faults_at m part (other_side (side_of last.step)) old =
      λ part. ap (λ (rtc : PolledPeer I D S M N). faults_of m part rtc.core) enters.performs.other in
      record {
        later = λ part. both_sides (λ at. faults_at m part at old ≤ faults_at m part at new) (side_of last.step) (acts.later part)
            (equal_below (faults_at m part (other_side (side_of last.step)) old) (faults_at m part (other_side (side_of last.step)) new) (same part));
        fault = acts.fault;
        media = acts.media;
      }

  -- in a run no count of faults falls
  ran_later : (start : PairState I D S M N) (past : List (Entry E)) (pair : PairState I D S M N) → Went (EntersSoundly m stun start) (λ fresh. fresh ≡ start) past pair → (part : CountedPart) (at : Side) → faults_at m part at start ≤ faults_at m part at pair
  ran_later start [] pair ran part at = equal_below (faults_at m part at start) (faults_at m part at pair) (ap (faults_at m part at) ran)
  ran_later start (last ∷ past) pair ran part at =
      let earlier : faults_at m part at start ≤ faults_at m part at ran.0 = ran_later start past ran.0 ran.1 part at in
      let later : faults_at m part at ran.0 ≤ faults_at m part at pair = ran.2.2.later part at in
      omega arith

  -- where no count rose in a run, no outcome of it tells a fault
  last_untold : (start between pair : PairState I D S M N) (past : List (Entry E)) (last : Entry E) → Went (EntersSoundly m stun start) (λ fresh. fresh ≡ start) past between → IsSoundOfParts m between last pair
      → ((part : CountedPart) (at : Side) → CountsFault m part at start pair → ⊥) → (part : CountedPart) → tells_fault_of last.outcome part ≡ false
  last_untold start between pair past last ran sound uncounted part = by (tells_fault_of last.outcome part) refl
    where
      by : (told : Bool) → tells_fault_of last.outcome part ≡ told → told ≡ false
      by false is = refl
      by true is =
          let at : Side = side_of last.step in
          let rose : CountsFault m part at start pair =
          rose_along (faults_at m part at start) (faults_at m part at between) (faults_at m part at pair) (faults_at m part at pair) (ran_later start past between ran part at)
          (sound.fault part is) (omega arith) in
          absurd (uncounted part at rose)

  last_unfaulted : (start between pair : PairState I D S M N) (past : List (Entry E)) (last : Entry E) → Went (EntersSoundly m stun start) (λ fresh. fresh ≡ start) past between → IsSoundOfParts m between last pair
      → ((part : CountedPart) (at : Side) → CountsFault m part at start pair → ⊥) → tells_fault last.outcome ≡ false
  last_unfaulted start between pair past last ran sound uncounted =
      rw (
        last_untold start between pair past last ran sound uncounted DtlsPart,
        last_untold start between pair past last ran sound uncounted AssociationPart,
        last_untold start between pair past last ran sound uncounted MediaPart,
      ) refl

  ran_unfaulted : (start : PairState I D S M N) (past : List (Entry E)) (pair : PairState I D S M N) → Went (EntersSoundly m stun start) (λ fresh. fresh ≡ start) past pair
      → ((part : CountedPart) (at : Side) → CountsFault m part at start pair → ⊥) → tell_fault (replies_of past) ≡ false
  ran_unfaulted start [] pair ran uncounted = refl
  ran_unfaulted start (last ∷ past) pair ran uncounted =
      let earlier : tell_fault (replies_of past) ≡ false = ran_unfaulted start past ran.0 ran.1
      (λ part at rose. uncounted part at (rose_along (faults_at m part at start) (faults_at m part at start) (faults_at m part at ran.0) (faults_at m part at pair) (omega arith) rose (ran.2.2.later part at))) in
      let here : tells_fault last.outcome ≡ false = last_unfaulted start ran.0 pair past last ran.1 ran.2.2 uncounted in
      list_any-append (λ (reply : Reply E). tells_fault reply.outcome) (replies_of past) (reply_of last ∷ []) ∙ rw (earlier, here) refl

  -- Where no count of faults rose in a run, no reply of it tells a fault.
  pub runs_unfaulted : (start : PairState I D S M N) (steps : List Step) (replies : List (Reply E)) (pair : PairState I D S M N) → Runs m stun start steps replies pair
      → ((part : CountedPart) (at : Side) → CountsFault m part at start pair → ⊥) → tell_fault replies ≡ false
  runs_unfaulted start steps replies pair run uncounted =
      ap tell_fault (sym run.replies_are) ∙ ran_unfaulted start run.past pair run.went uncounted
