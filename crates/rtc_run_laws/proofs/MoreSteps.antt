-- A run goes on by a step that is performed.
use Rattle.std.proofs.Common.{◌≡◌, ◌<◌, ◌^◌, ℕ, Bool, List, [], ◌∷◌, ◌++◌, map, refl, ap, arith}
use Rattle.rtc_peer_core.specs.Meanings.{Meanings, PartsLaws}
use Rattle.rtc_run_history.specs.declared.step.Step.{Step}
use Rattle.rtc_run_history.specs.declared.reply.Reply.{Reply}
use Rattle.rtc_run_history.specs.Sizes.{steps_size}
use Rattle.rtc_run_history.specs.Past.{Entry, packets_shown}
use Rattle.rtc_run_history.specs.PairState.{PairState, made_sdp, peer_at, size_sent}
use Rattle.rtc_run_history.specs.Performs.{Performs, Enters, sdps_behind}
use Rattle.rtc_run_history.specs.Runs.{Went, EntersSoundly, Runs}
use Rattle.rtc_run_history.specs.Fresh.{IsFresh}
use Rattle.rtc_run_laws.proofs.StanceSteps.{pair_stance}
use Rattle.rtc_run_laws.proofs.StandingSteps.{performs_stands}
use Rattle.rtc_run_laws.proofs.EmptyStreams.{AreUnused}
use Rattle.rtc_run_laws.proofs.StanceRuns.{StanceReached, StanceRan, no_rows, fresh_stands, fresh_unused, ran_unused, ran_stands, ran_reached}
use Rattle.rtc_run_laws.proofs.Bounds.{IsWithin}
use Rattle.rtc_run_laws.proofs.Tells.{Tells}
use Rattle.rtc_run_laws.proofs.Around.{entry}
use Rattle.rtc_run_laws.proofs.SentPackets.{packets_performed}
use Rattle.rtc_run_laws.proofs.PartsSound.{parts_sound}
use Rattle.rtc_run_laws.proofs.Reaches.{reached_tells, reached_within, reached_size}
use Rattle.rtc_run_laws.proofs.OrderlySounds.{sound_next}

module _ {I D S M E X T W N : Type 0} (m : Meanings I D S M E X T W N) (stun : List ℕ → Bool) where
  -- a run of no steps
  pub runs_none : (start : PairState I D S M N) → IsFresh m start → Runs m stun start [] [] start
  runs_none start fresh = record {
    past = [];
    steps_are = refl;
    replies_are = refl;
    went = refl;
    kept = ap (map made_sdp) fresh.sdps;
    packets = ap (map size_sent) fresh.packets;
    rows = λ at. (fresh.built at).lines;
    channels = λ at. no_rows m (peer_at at start) (fresh.built at).channels;
  }

  -- a run of one more step
  pub runs_more : PartsLaws m → (start old new : PairState I D S M N) (steps : List Step) (replies : List (Reply E)) (step : Step) (reply : Reply E)
      → IsFresh m start → Runs m stun start steps replies old → Performs m stun old step reply.outcome reply.table new → new.size < 2 ^ 32
      → Runs m stun start (steps ++ step ∷ []) (replies ++ reply ∷ []) new
  runs_more laws start old new steps replies step reply fresh run performs small =
      let last : Entry E = entry step reply.outcome reply.table (sdps_behind old.sdps new.sdps) in
      let unused : AreUnused m laws start = fresh_unused m laws start fresh in
      let ran : StanceRan (pair_stance m start) run.past (pair_stance m old) = ran_stands m stun laws start run.past old unused run.went in
      let enters : Enters m stun old last new = record { performs = performs; made = refl } in
      let went : Went (EntersSoundly m stun start) (λ fresh. fresh ≡ start) (last ∷ run.past) new = (
        old,
        run.went,
        (
          enters,
          sound_next (pair_stance m start) (pair_stance m old) (pair_stance m new) run.past step reply.outcome reply.table (fresh_stands m start fresh) ran
              (performs_stands m laws old step reply.outcome reply.table new (ran_unused m stun laws start run.past old unused run.went) performs) small,
          parts_sound m stun laws old last new enters,
        ),
      ) in
      let tells : Tells (last ∷ run.past) (pair_stance m new) = reached_tells (pair_stance m start) (pair_stance m new) (last ∷ run.past) (fresh_stands m start fresh) (ran_reached (pair_stance m start) (last ∷ run.past) (pair_stance m new) (ran_stands m stun laws start (last ∷ run.past) new unused went)) small in
      record {
        past = last ∷ run.past;
        steps_are = ap (λ before. before ++ step ∷ []) run.steps_are;
        replies_are = ap (λ before. before ++ reply ∷ []) run.replies_are;
        went = went;
        kept = tells.says;
        packets = packets_performed m stun old new step reply.outcome reply.table (packets_shown run.past) run.packets performs;
        rows = λ at. (tells.sides at).rows;
        channels = λ at. (tells.sides at).channels.shown;
      }

  -- ---- sizes

  run_reached : PartsLaws m → (start pair : PairState I D S M N) (steps : List Step) (replies : List (Reply E)) → IsFresh m start → (run : Runs m stun start steps replies pair) → StanceReached (pair_stance m start) run.past (pair_stance m pair)
  run_reached laws start pair steps replies fresh run =
      ran_reached (pair_stance m start) run.past (pair_stance m pair) (ran_stands m stun laws start run.past pair (fresh_unused m laws start fresh) run.went)

  -- the size of a pair is that of the steps of its run
  pub runs_size : PartsLaws m → (start pair : PairState I D S M N) (steps : List Step) (replies : List (Reply E)) → IsFresh m start → Runs m stun start steps replies pair → pair.size ≡ steps_size steps
  runs_size laws start pair steps replies fresh run =
      omega (arith, reached_size (pair_stance m start) (pair_stance m pair) run.past (run_reached laws start pair steps replies fresh run), fresh.size, ap steps_size run.steps_are)

  -- a pair is within the size of the steps of its run
  pub runs_within : PartsLaws m → (start pair : PairState I D S M N) (steps : List Step) (replies : List (Reply E)) → IsFresh m start → Runs m stun start steps replies pair → pair.size < 2 ^ 32 → IsWithin (pair_stance m pair)
  runs_within laws start pair steps replies fresh run small =
      reached_within (pair_stance m start) (pair_stance m pair) run.past (fresh_stands m start fresh) (run_reached laws start pair steps replies fresh run) small
