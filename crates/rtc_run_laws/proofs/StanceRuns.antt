-- Pairs that steps lead to, as negotiation sees both sides.
use Rattle.std.proofs.Common.{◌≡◌, ◌∙◌, ℕ, Bool, true≢false, List, [], ◌∷◌, sym, ap}
use Rattle.rtc_peer_core.specs.Meanings.{Meanings, PartsLaws}
use Rattle.rtc_run_history.specs.declared.side.Side.{Side}
use Rattle.rtc_run_history.specs.Past.{Entry}
use Rattle.rtc_run_history.specs.SoundEntry.{IsSoundEntry}
use Rattle.rtc_run_history.specs.Fresh.{IsJustBuilt, IsFresh}
use Rattle.rtc_run_history.specs.PairState.{PairState, peer_at}
use Rattle.rtc_channels.specs.Channels.{no_channels}
use Rattle.rtc_peer_core.specs.declared.peer.Peer.{Peer}
use Rattle.rtc_peer_core.specs.ChannelRows.{channel_rows}
use Rattle.rtc_run_history.specs.Runs.{Went, Reached, EntersSoundly}
use Rattle.rtc_run_laws.proofs.StanceSteps.{PairStance, StanceEnters, pair_stance}
use Rattle.rtc_run_history.specs.Performs.{Enters}
use Rattle.rtc_run_laws.proofs.EmptyStreams.{AreUnused, went_unused}
use Rattle.rtc_run_laws.proofs.StandingSteps.{enters_stands}
use Rattle.rtc_run_laws.proofs.SoundPasts.{Sound}

-- both sides were just built; no session description was made and no step performed
pub record IsFreshStance (pair : PairStance) : Type 0 where
  pub built : (at : Side) → IsJustBuilt (pair.sides at)
  pub rows : (at : Side) → (pair.sides at).rows ≡ []
  pub sdps : pair.sdps ≡ []
  pub size : pair.size ≡ 0

abbrev pub StanceReached : {E : Type 0} → PairStance → List (Entry E) → PairStance → Type 0
StanceReached start past pair = Went (λ earlier between entry after. StanceEnters between entry after) (λ first. first ≡ start) past pair

-- each step leads from one pair to another, and its entry is sound after the entries before it
abbrev pub StanceRan : {E : Type 0} → PairStance → List (Entry E) → PairStance → Type 0
StanceRan start past pair =
    Went (λ earlier between entry after. StanceEnters between entry after × IsSoundEntry start.sides earlier between.sides entry after.sides) (λ first. first ≡ start) past pair

pub ran_reached : {E : Type 0} → (start : PairStance) (past : List (Entry E)) (pair : PairStance) → StanceRan start past pair → StanceReached start past pair
ran_reached start [] pair ran = ran
ran_reached start (last ∷ past) pair ran = (ran.0, ran_reached start past ran.0 ran.1, ran.2.0)

pub ran_sound : {E : Type 0} → (start : PairStance) (past : List (Entry E)) (pair : PairStance) → StanceRan start past pair → Sound start.sides past
ran_sound start [] pair ran = tt
ran_sound start (last ∷ past) pair ran = (record { between = ran.0.sides; after = pair.sides; sound = ran.2.1 }, ran_sound start past ran.0 ran.1)

module _ {I D S M E X T W N : Type 0} (m : Meanings I D S M E X T W N) where
  -- there are no rows of no channels
  pub no_rows : (p : Peer I D S M N) → p.channels ≡ no_channels → channel_rows m.association p.sctp p.channels ≡ []
  no_rows p none = ap (channel_rows m.association p.sctp) none

  pub fresh_stands : (pair : PairState I D S M N) → IsFresh m pair → IsFreshStance (pair_stance m pair)
  fresh_stands pair fresh = record { built = fresh.built; rows = λ at. no_rows (peer_at at pair) (fresh.built at).channels; sdps = fresh.sdps; size = fresh.size }

  -- before the association is started no stream is in use, and no DTLS role is asked for
  pub fresh_unused : (laws : PartsLaws m) (pair : PairState I D S M N) → IsFresh m pair → AreUnused m laws pair
  fresh_unused laws pair fresh = λ at. record {
    empty = λ unstarted. fresh.unused at;
    role = λ started. absurd (true≢false (sym started ∙ (fresh.built at).uninited));
  }

  pub reached_stands : (stun : List ℕ → Bool) (laws : PartsLaws m) (start : PairState I D S M N) (past : List (Entry E)) (pair : PairState I D S M N) → AreUnused m laws start → Reached m stun start past pair → StanceReached (pair_stance m start) past (pair_stance m pair)
  reached_stands stun laws start [] pair unused reached = ap (pair_stance m) reached
  reached_stands stun laws start (last ∷ past) pair unused reached = (
    pair_stance m reached.0,
    reached_stands stun laws start past reached.0 unused reached.1,
    enters_stands m laws reached.0 last pair (went_unused m laws (λ earlier between entry after. Enters m stun between entry after) (λ earlier between entry after enters. (stun, enters)) start past reached.0 unused reached.1) reached.2,
  )

  -- nor does it come into use in a run
  pub ran_unused : (stun : List ℕ → Bool) (laws : PartsLaws m) (start : PairState I D S M N) (past : List (Entry E)) (pair : PairState I D S M N) → AreUnused m laws start
      → Went (EntersSoundly m stun start) (λ fresh. fresh ≡ start) past pair → AreUnused m laws pair
  ran_unused stun laws start past pair unused ran =
      went_unused m laws (EntersSoundly m stun start) (λ earlier between entry after enters. (stun, enters.0)) start past pair unused ran

  pub ran_stands : (stun : List ℕ → Bool) (laws : PartsLaws m) (start : PairState I D S M N) (past : List (Entry E)) (pair : PairState I D S M N) → AreUnused m laws start
      → Went (EntersSoundly m stun start) (λ fresh. fresh ≡ start) past pair → StanceRan (pair_stance m start) past (pair_stance m pair)
  ran_stands stun laws start [] pair unused ran = ap (pair_stance m) ran
  ran_stands stun laws start (last ∷ past) pair unused ran = (
    pair_stance m ran.0,
    ran_stands stun laws start past ran.0 unused ran.1,
    (enters_stands m laws ran.0 last pair (ran_unused stun laws start past ran.0 unused ran.1) ran.2.0, ran.2.1),
  )
