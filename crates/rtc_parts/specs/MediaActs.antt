-- What was done to a media part, as a list of acts. The acts follow from the meaning of the calls.
use Rattle.std.specs.Prelude.{ℕ, ◌≡◌, ◌⊎◌, Bool, true, false, List, [], ◌∷◌, ◌++◌, Option, Some, Result, Ok, refl}
use Rattle.std.proofs.Common.{subst, inl, inr}
use Rattle.std.specs.declared.alloc.AllocError.{AllocError}
use Rattle.rtc_sdp_values.specs.declared.ssrc.Ssrc.{Ssrc}
use Rattle.rtc_parts.specs.Why.{Why, Timed, Shut, Other}
use Rattle.rtc_parts.specs.declared.srtp_profile.SrtpProfile.{SrtpProfile}
use Rattle.rtc_parts.specs.declared.media_error.MediaError.{MediaError}
use Rattle.rtc_parts.specs.declared.media_settings.MediaSettings.{MediaSettings}
use Rattle.rtc_parts.specs.declared.media_update.MediaUpdate.{MediaUpdate}
use Rattle.rtc_parts.specs.declared.stats_snapshot.StatsSnapshot.{StatsSnapshot}
use Rattle.rtc_parts.specs.MediaMeaning.{MediaMeaning}

-- one act: a packet was given, a datagram was taken, or anything else was done
pub data MediaAct : Type 0 where
  MediaGiven : (packet : List ℕ) → MediaAct
  MediaTaken : (datagram : List ℕ) → MediaAct
  MediaStirred : (why : Why) → MediaAct

module _ {M E X T W : Type 0} (m : MediaMeaning M E X T W) where
  -- the calls that change lines
  pub data ChangesLines (p q : M) : Type 0 where
    Committed : m.committed p q → ChangesLines p q
    LineRemoved : (mid : List ℕ) → m.line_removed p mid q → ChangesLines p q

  -- the calls that lend for writing, with what stood behind the reference as it was lent and what was left there
  pub data LendsMedia (p q : M) : Type 0 where
    WriterLent : (mid : List ℕ) (lent left : W) → m.writer_lent p mid lent left q → LendsMedia p q
    RxExpected : (ssrc : Ssrc) (rtx : Option Ssrc) (mid : List ℕ) (rid : Option (List ℕ)) (lent left : X)
        → m.rx_expected p ssrc rtx mid rid lent left q → LendsMedia p q
    TxDeclared : (ssrc : Ssrc) (rtx : Option Ssrc) (mid : List ℕ) (rid : Option (List ℕ)) (lent left : T)
        → m.tx_declared p ssrc rtx mid rid lent left q → LendsMedia p q
    RxLent : (ssrc : Ssrc) (lent left : X) → m.rx_lent p ssrc lent left q → LendsMedia p q
    TxLent : (ssrc : Ssrc) (lent left : T) → m.tx_lent p ssrc lent left q → LendsMedia p q
    RxNamedLent : (mid : List ℕ) (rid : Option (List ℕ)) (lent left : X) → m.rx_named_lent p mid rid lent left q → LendsMedia p q
    TxNamedLent : (mid : List ℕ) (rid : Option (List ℕ)) (lent left : T) → m.tx_named_lent p mid rid lent left q → LendsMedia p q
    TxReset : (mid : List ℕ) (rid : Option (List ℕ)) (ssrc : Ssrc) (rtx : Option Ssrc) (lent left : T)
        → m.tx_reset p mid rid ssrc rtx lent left q → LendsMedia p q

  -- the other calls with which nothing was given or taken, and that neither pass time nor shut down
  pub data StirsMedia (p q : M) : Type 0 where
    Configured : (settings : MediaSettings) → m.configured p settings q → StirsMedia p q
    Prepared : (updates : List MediaUpdate) (r : Result (Unit {0}) AllocError) → m.prepared p updates r q → StirsMedia p q
    Keyed : (key : List ℕ) (profile : SrtpProfile) (active : Bool) (r : Result (Unit {0}) AllocError)
        → m.keyed p key profile active r q → StirsMedia p q
    EventTold : (e : E) → m.told p (Some e) q → StirsMedia p q
    FallibleTold : (now : ℕ) (r : Result (Option E) MediaError) → m.told_fallible p now r q → StirsMedia p q
    FeedbackCleared : m.cleared p q → StirsMedia p q
    StatsVisited : (now : ℕ) (s : StatsSnapshot) (r : Result (Unit {0}) AllocError) (t : StatsSnapshot)
        → m.stats_visited p now s r t q → StirsMedia p q
    RedSet : (mid : List ℕ) (on b : Bool) → m.red_set p mid on b q → StirsMedia p q
    TwccEnabled : m.twcc_enabled p q → StirsMedia p q
    AppFed : (sender media : Ssrc) (payload : List ℕ) (r : Result (Unit {0}) AllocError) → m.app_fed p sender media payload r q
        → StirsMedia p q
    PliFed : (sender media : Ssrc) (r : Result (Unit {0}) AllocError) → m.pli_fed p sender media r q → StirsMedia p q
    RxRemoved : (ssrc : Ssrc) (b : Bool) → m.rx_removed p ssrc b q → StirsMedia p q
    TxRemoved : (ssrc : Ssrc) (b : Bool) → m.tx_removed p ssrc b q → StirsMedia p q

-- an act took the part from p to q
abbrev pub MediaActed : {M E X T W : Type 0} → MediaMeaning M E X T W → M → MediaAct → M → Type 0
MediaActed m p (MediaGiven packet) q = (now : ℕ) × ((r : _) × (m.rtp_given p now packet r q ⊎ m.rtcp_given p now packet r q))
MediaActed m p (MediaTaken datagram) q = (now : ℕ) × m.gave p now (Some datagram) q
MediaActed m p (MediaStirred (Timed now)) q = (r : _) × m.timed p now r q
MediaActed m p (MediaStirred Shut) q = (r : _) × m.rtp_shut p r q
MediaActed m p (MediaStirred Other) q = ChangesLines m p q ⊎ (LendsMedia m p q ⊎ StirsMedia m p q)

-- whether a call of these changes what is prepared: a commit, or preparing with an Ok
abbrev pub is_commit : {M E X T W : Type 0} (m : MediaMeaning M E X T W) (p q : M) → ChangesLines m p q → Bool
is_commit m p q (Committed h) = true
is_commit m p q (LineRemoved mid h) = false

abbrev pub is_preparing : {M E X T W : Type 0} (m : MediaMeaning M E X T W) (p q : M) → StirsMedia m p q → Bool
is_preparing m p q (Prepared updates (Ok _) h) = true
is_preparing m p q _ = false

abbrev pub is_preparing_or_commit : {M E X T W : Type 0} (m : MediaMeaning M E X T W) (p q : M)
    → ChangesLines m p q ⊎ (LendsMedia m p q ⊎ StirsMedia m p q) → Bool
is_preparing_or_commit m p q (inl h) = is_commit m p q h
is_preparing_or_commit m p q (inr (inl h)) = false
is_preparing_or_commit m p q (inr (inr h)) = is_preparing m p q h

-- whether an act is such a call
abbrev pub changes_pending : {M E X T W : Type 0} (m : MediaMeaning M E X T W) (p q : M) (act : MediaAct) → MediaActed m p act q → Bool
changes_pending m p q (MediaStirred Other) h = is_preparing_or_commit m p q h
changes_pending m p q _ h = false

-- the calls that keep every line: all but a commit and the removal of a line
pub data KeepsLines {M E X T W : Type 0} (m : MediaMeaning M E X T W) (p q : M) : Type 0 where
  ByGiven : (packet : List ℕ) → MediaActed m p (MediaGiven packet) q → KeepsLines m p q
  ByTaken : (datagram : List ℕ) → MediaActed m p (MediaTaken datagram) q → KeepsLines m p q
  ByTime : (now : ℕ) → MediaActed m p (MediaStirred (Timed now)) q → KeepsLines m p q
  ByShut : MediaActed m p (MediaStirred Shut) q → KeepsLines m p q
  ByLoan : LendsMedia m p q → KeepsLines m p q
  ByOther : StirsMedia m p q → KeepsLines m p q

-- a list of acts took the part from p to q
abbrev pub MediaMoved : {M E X T W : Type 0} → MediaMeaning M E X T W → M → List MediaAct → M → Type 0
MediaMoved m p [] q = q ≡ p
MediaMoved {M} m p (act ∷ acts) q = (r : M) × (MediaActed m p act r × MediaMoved m r acts q)

-- two moves join to one
pub media_moved-append : {M E X T W : Type 0} (m : MediaMeaning M E X T W) (a b c : M) (xs ys : List MediaAct)
    → MediaMoved m a xs b → MediaMoved m b ys c → MediaMoved m a (xs ++ ys) c
media_moved-append {M} m a b c [] ys h k = subst (λ (x : M). MediaMoved m x ys c) h k
media_moved-append m a b c (x ∷ xs) ys h k = (h.0, (h.1.0, media_moved-append m h.0 b c xs ys h.1.1 k))

-- one act is a move
pub media_moved-one : {M E X T W : Type 0} (m : MediaMeaning M E X T W) (a b : M) (act : MediaAct) → MediaActed m a act b
    → MediaMoved m a (act ∷ []) b
media_moved-one m a b act h = (b, (h, refl))
