-- What a peer is once a reference that its media part lent is over, and what an answer is where a row has the mid.
use Rattle.std.proofs.Common.{◌≡◌, ◌&&◌, ◌||◌, not, Bool, true, false, Option, Some, None, Result, Ok, Err, refl, ap}
use Rattle.std.specs.Option.{IfSome}
use Rattle.std.specs.Result.{IsOk, IfOk, OnErr}
use Rattle.rtc_parts.specs.declared.no_stream.NoStream.{NoStream}
use Rattle.rtc_parts.specs.NoStream.{StreamAnswers}
use Rattle.rtc_peer_transport.specs.declared.polled_peer.PolledPeer.{PolledPeer}
use Rattle.rtc_peer_transport.specs.Connection.{with_media}

module _ {I D S M N : Type 0} (p : PolledPeer I D S M N) where
  -- the media part ends by what it lent, and the peer has it
  pub loan_ends : {A : Type 0} (r : Option A) (Did : A → M → Type 0) (m : M) → IfSome r (λ lent. Did lent m)
      → IfSome r (λ lent. Did lent m × (with_media m p ≡ with_media m p))
  loan_ends None Did m h = tt
  loan_ends (Some lent) Did m h = (h, refl)

  pub made_loan_ends : {A E : Type 0} (r : Result A E) (Did : A → M → Type 0) (m : M) → (IsOk r → IfOk r (λ lent. Did lent m))
      → IsOk r → IfOk r (λ lent. Did lent m × (with_media m p ≡ with_media m p))
  made_loan_ends (Ok lent) Did m h ok = (h ok, refl)
  made_loan_ends (Err e) Did m h ok = tt

  -- nothing was lent, and the peer is as before
  pub nothing_lent : (m : M) → m ≡ p.core.media → with_media m p ≡ p
  nothing_lent m is = ap (λ (x : M). with_media x p) is

  pub nothing_made : {A E : Type 0} (r : Result A E) (m : M) → OnErr r (m ≡ p.core.media) → OnErr r (with_media m p ≡ p)
  nothing_made (Ok lent) m h = tt
  nothing_made (Err e) m h = nothing_lent m h

-- where a row has the mid, the part decides
pub part_answers : {X : Type 0} (there none : Bool) (r : Result X NoStream) → there ≡ true → StreamAnswers none r
    → StreamAnswers (not there || none) r
part_answers there none r is h = rw is h

pub part_finds : (rtp_mode open_phase there has found : Bool) → rtp_mode ≡ false → open_phase ≡ true → there ≡ true → found ≡ has
    → found ≡ (not rtp_mode && (open_phase && (there && has)))
part_finds rtp_mode open_phase there has found samples is_open is h = rw (samples, is_open, is) h
