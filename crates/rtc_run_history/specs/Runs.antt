-- Runs of a pair: from the pair at its start, step by step, each of them sound.
use Rattle.std.specs.Prelude.{◌≡◌, ℕ, Bool, List, [], ◌∷◌, map}
use Rattle.rtc_peer_core.specs.ChannelRows.{channel_rows}
use Rattle.rtc_peer_core.specs.Meanings.{Meanings}
use Rattle.rtc_run_history.specs.declared.side.Side.{Side}
use Rattle.rtc_run_history.specs.declared.step.Step.{Step}
use Rattle.rtc_run_history.specs.declared.reply.Reply.{Reply}
use Rattle.rtc_run_history.specs.Past.{Entry, before, channels_shown, packets_shown, sdps, steps_of, replies_of}
use Rattle.rtc_run_history.specs.SoundEntry.{IsSoundEntry}
use Rattle.rtc_run_history.specs.PairState.{PairState, peer_at, made_sdp, size_sent, stances_of}
use Rattle.rtc_run_history.specs.Performs.{Enters}
use Rattle.rtc_run_history.specs.SoundParts.{IsSoundOfParts}

-- A pair passes through a past, newest entry first: each entry leads from the pair before it to the pair after it.
abbrev pub Went : {E : Type 0} → {P : Type 0} → (List (Entry E) → P → Entry E → P → Type 0) → (P → Type 0) → List (Entry E) → P → Type 0
Went enters fresh [] pair = fresh pair
Went {E} {P} enters fresh (entry ∷ past) pair = (between : P) × Went enters fresh past between × enters past between entry pair

module _ {I D S M E X T W N : Type 0} (m : Meanings I D S M E X T W N) (stun : List ℕ → Bool) where
  -- a pair is reached from the start by the calls of its steps
  abbrev pub Reached : PairState I D S M N → List (Entry E) → PairState I D S M N → Type 0
  Reached start past pair = Went (λ earlier between entry after. Enters m stun between entry after) (λ fresh. fresh ≡ start) past pair

  -- the calls of a step lead from one pair to another, and its entry is sound after the entries before it, also in what it says of the
  -- parts
  abbrev pub EntersSoundly : PairState I D S M N → List (Entry E) → PairState I D S M N → Entry E → PairState I D S M N → Type 0
  EntersSoundly start earlier between entry after =
      Enters m stun between entry after
      × IsSoundEntry (stances_of m start) earlier (stances_of m between) entry (stances_of m after)
      × IsSoundOfParts m between entry after

  -- A run by these steps, with these replies.
  pub record Runs (start : PairState I D S M N) (steps : List Step) (replies : List (Reply E)) (pair : PairState I D S M N) : Type 0 where
    pub past : List (Entry E)
    pub steps_are : steps_of past ≡ steps
    pub replies_are : replies_of past ≡ replies
    pub went : Went (EntersSoundly start) (λ fresh. fresh ≡ start) past pair
    -- the pair keeps the SDPs that the past says were made
    pub kept : map made_sdp pair.sdps ≡ sdps past
    -- and the datagrams that it shows
    pub packets : map size_sent pair.packets ≡ packets_shown past
    -- the peers hold the rows and the channels that the last replies show
    pub rows : (at : Side) → (peer_at at pair).lines ≡ before at past
    pub channels : (at : Side) → channel_rows m.association (peer_at at pair).sctp (peer_at at pair).channels ≡ channels_shown at past
