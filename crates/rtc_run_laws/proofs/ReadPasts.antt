-- Where both sides of a fresh pair are formed, each session description of its past is read back.
use Rattle.std.proofs.Common.{◌≡◌, zero, suc, ℕ, List, [], ◌∷◌, Some, None, subst}
use Rattle.std.specs.Prelude.{slice_get}
use Rattle.std.specs.List.{AllByRecursion}
use Rattle.rtc_peer_core.proofs.Alls.{all-append}
use Rattle.rtc_run_history.specs.Past.{Entry, MadeSdp, sdps}
use Rattle.rtc_run_history.specs.Signalled.{ReadsBack}
use Rattle.rtc_run_history.specs.SoundEntry.{AreReadBack}
use Rattle.rtc_run_history.specs.Views.{Stances, AreFormed}
use Rattle.rtc_run_laws.proofs.SoundPasts.{Sound}

pub all-get : {A : Type 0} (P : A → Type 0) (xs : List A) (k : ℕ) (x : A) → slice_get xs k ≡ Some x → AllByRecursion P xs → P x
all-get P [] k x there h = absurd (let e : None ≡ Some x = there in cc)
all-get P (y ∷ ys) zero x there h = let e : Some y ≡ Some x = there in let same : y ≡ x = cc in subst P same h.0
all-get P (y ∷ ys) (suc k) x there h = all-get P ys k x there h.1

pub past_read : {E : Type 0} → (fresh : Stances) (past : List (Entry E)) → AreFormed fresh → Sound fresh past → AreReadBack (sdps past)
past_read fresh [] formed sound = tt
past_read fresh (entry ∷ past) formed sound =
    all-append (λ (said : MadeSdp). ReadsBack said.sdp) (sdps past) entry.made (past_read fresh past formed sound.1)
    (sound.0.sound.read_back formed)

-- the session description of a number
pub read_at : {E : Type 0} → (past : List (Entry E)) (n : ℕ) (said : MadeSdp) → AreReadBack (sdps past) → slice_get (sdps past) n ≡ Some said
    → ReadsBack said.sdp
read_at past n said read there = all-get (λ (one : MadeSdp). ReadsBack one.sdp) (sdps past) n said there read
