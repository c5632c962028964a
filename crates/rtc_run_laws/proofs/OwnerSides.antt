-- What holds of a side in a run: what was done to it and told of it, its rows and entries, and the tokens that it keeps.
use Rattle.std.proofs.Common.{◌≡◌, ◌⊎◌, inl, inr, ◌<◌, ℕ, Bool, true, false, true≢false, List, [], Some, refl, sym}
use Rattle.rtc_parts.specs.Draws.{Draws}
use Rattle.rtc_plain_media.specs.declared.plain_media_event.PlainMediaEvent.{PlainMediaEvent}
use Rattle.rtc_peer_core.specs.declared.phase.Phase.TheVariants.{Closed}
use Rattle.rtc_run_history.specs.declared.kept.Kept.{Kept}
use Rattle.rtc_run_history.specs.declared.side.Side.{Side}
use Rattle.rtc_run_history.specs.declared.side.Side.TheVariants.{Left, Right}
use Rattle.rtc_run_history.specs.Native.{are_native}
use Rattle.rtc_run_history.specs.PairState.{rtc_at}
use Rattle.rtc_run_history.specs.Past.{Entry, steps_of}
use Rattle.rtc_run_history.specs.Runs.{Reached}
use Rattle.rtc_run_history.specs.Sides.{other_side, same_side}
use Rattle.rtc_run_laws.specs.ChannelUses.{ChannelUse}
use Rattle.rtc_run_laws.specs.NewPairs.{IsNewPair}
use Rattle.rtc_run_laws.specs.OwnOpenings.{IsOfSide}
use Rattle.rtc_run_laws.specs.PlainPairs.{PlainPair, PlainPolled, plain_over}
use Rattle.rtc_run_laws.specs.SentMessages.{sent_over}
use Rattle.rtc_run_laws.specs.ToldMessages.{told_over}
use Rattle.rtc_run_laws.specs.UsesOfRuns.{uses_of}
use Rattle.rtc_run_laws.proofs.AnnouncedStreams.{HasUseOver}
use Rattle.rtc_run_laws.proofs.NoneAnnounced.{AreNoneOver}
use Rattle.rtc_run_laws.proofs.BegunRows.{AreSound}
use Rattle.rtc_run_laws.proofs.ClosedUses.{IsWhole}
use Rattle.rtc_run_laws.proofs.ConfirmedRuns.{SideSound, run_sound}
use Rattle.rtc_run_laws.proofs.ConfirmedSides.{new_sound}
use Rattle.rtc_run_laws.proofs.NumberedTokens.{AreKeptSo, AreKeptWith}
use Rattle.rtc_run_laws.proofs.OwnNegotiation.{IsAdded}
use Rattle.rtc_run_laws.proofs.OwnTokens.{run_tokens}
use Rattle.rtc_run_laws.proofs.OwnedRuns.{LivesOnSide, new_pair_owned, run_owned}
use Rattle.rtc_run_laws.proofs.PolledUses.{IsGood}
use Rattle.rtc_run_laws.proofs.RunsTold.{StoodIn, new_pair_told, reached_told, stood_in}
use Rattle.rtc_run_laws.proofs.StepsExchange.{plain_over_laws}
use Rattle.rtc_run_laws.proofs.SureNumbers.{IsSureNumber}
use Rattle.rtc_run_laws.proofs.UseLists.{AllUses}

pub sides_meet : (a x : Side) → same_side a x ≡ true → a ≡ x
sides_meet Left Left e = refl
sides_meet Left Right e = absurd (true≢false (sym e))
sides_meet Right Left e = absurd (true≢false (sym e))
sides_meet Right Right e = refl

pub sides_part : (a x : Side) → same_side a x ≡ false → a ≡ other_side x
sides_part Left Left e = absurd (true≢false e)
sides_part Left Right e = refl
sides_part Right Left e = refl
sides_part Right Right e = absurd (true≢false e)

pub apart_other : (x : Side) → same_side x (other_side x) ≡ false
apart_other Left = refl
apart_other Right = refl

pub meets_self : (x : Side) → same_side x x ≡ true
meets_self Left = refl
meets_self Right = refl

pub twice : (x : Side) → other_side (other_side x) ≡ x
twice Left = refl
twice Right = refl

-- A channel that was announced over the generation was not rolled back, and a rollback leaves it: its row was confirmed, or it is of no token. So it is over a
-- stream of this side, and of a channel that is not negotiated out-of-band.
abbrev pub SafeAt : {N : Type 0} → (s g : ℕ) (c : Bool) (at : Side) (sdps : List Kept) → PlainPolled N → ChannelUse → Type 0
SafeAt s g c at sdps p x =
    x.in_band ≡ true
    → x.stream ≡ Some s
    → x.generation ≡ g
    → IsOfSide c s ⊎ (x.negotiated ≡ false)
    → (x.rolled_back ≡ false)
    × (IsSureNumber x.channel p.core.channels ⊎ ((x.channel < p.core.channels.given) × AreKeptSo at (λ k. k ≡ x.channel → ⊥) sdps))

-- So it is of each that the side announced; or the side is closed, and what was sent over each that was rolled back is all that it ever sent to the
-- generation; or the stream is of this side, and it alone announced one over the generation.
abbrev pub HeldAt : {N : Type 0} → (s g : ℕ) (c : Bool) (at : Side) (sdps : List Kept) → PlainPolled N → (uses vs : List ChannelUse)
    → (sent : List (Bool × List ℕ)) → Type 0
HeldAt s g c at sdps p uses vs sent =
    ((p.core.phase ≡ Closed → ⊥) × AllUses (SafeAt s g c at sdps p) uses)
    ⊎ (((p.core.phase ≡ Closed) × AllUses (IsWhole s g c sent) uses)
    ⊎ (IsOfSide c s × HasUseOver s (Some g) uses × AreNoneOver s g vs))

module _ {N : Type 0} (draws : Draws N) (stun : List ℕ → Bool) (start : PlainPair N) (new : IsNewPair draws start) (none : start.sdps ≡ []) where
  sound_start : (at : Side) → SideSound (plain_over draws) (plain_over_laws draws) (rtc_at at start)
  sound_start Left = inr (new_sound draws start.left new.left)
  sound_start Right = inr (new_sound draws start.right new.right)

  abbrev pub LivesAs : Bool → PlainPolled N → Type 0
  LivesAs c p = LivesOnSide (plain_over draws) (plain_over_laws draws) c p

  module _ (past : List (Entry PlainMediaEvent)) (pair : PlainPair N) (go : are_native (steps_of past) ≡ true)
      (ran : Reached (plain_over draws) stun start past pair) where
    abbrev pub uses_at : Side → List ChannelUse
    uses_at x = uses_of (plain_over draws) stun start x past pair ran

    pub told_at : (x : Side) → StoodIn draws x pair uses_at (λ y. sent_over (plain_over draws) stun start y past pair ran)
        (λ y. told_over (plain_over draws) stun start y past pair ran)
    told_at x =
        stood_in draws x pair uses_at (λ y. sent_over (plain_over draws) stun start y past pair ran)
        (λ y. told_over (plain_over draws) stun start y past pair ran)
        (reached_told draws stun start past pair go ran (new_pair_told draws start new))

    pub good_at : (x : Side) (c : Bool) → LivesAs c (rtc_at x pair)
        → IsGood draws x (told_at x).other (rtc_at (other_side x) pair) (sent_over (plain_over draws) stun start x past pair ran) c (rtc_at x pair)
    good_at x c lives = record {
      sound = sound (run_sound (plain_over draws) (plain_over_laws draws) stun start past pair go ran sound_start x);
      owned =
          run_owned (plain_over draws) (plain_over_laws draws) c stun start past pair go ran sound_start (λ y. new_pair_owned draws c start new y) x lives;
    }
      where
        sound : SideSound (plain_over draws) (plain_over_laws draws) (rtc_at x pair) → AreSound (rtc_at x pair).core.channels (rtc_at x pair).core.sctp
        sound (inl closed) = absurd (lives.lives closed)
        sound (inr k) = k

    pub tokens_at : (x : Side) (c : Bool) → LivesAs c (rtc_at x pair) → AreKeptWith x (IsAdded (plain_over draws) c (rtc_at x pair).core) pair.sdps
    tokens_at x c lives = run_tokens (plain_over draws) (plain_over_laws draws) c stun start past pair go ran sound_start none x lives
