-- How a peer meets an offer that may have crossed one of its own (W3C webrtc-pc, section 10).
use Rattle.std.specs.Prelude.{◌≡◌, Bool, true, false, [], Option, Some, None, Result, Ok, Err}
use Rattle.rtc_sdp_values.specs.declared.sdp.Sdp.{Sdp}
use Rattle.rtc_lines.specs.declared.sdp_answer.SdpAnswer.{SdpAnswer}
use Rattle.rtc_change.specs.PendingOffer.{PendingOffer}
use Rattle.rtc_peer_core.specs.Acceptances.{AcceptsOffer}
use Rattle.rtc_peer_core.specs.Meanings.{Meanings}
use Rattle.rtc_peer_core.specs.RollingBack.{RollsBack}
use Rattle.rtc_peer_core.specs.declared.peer.Peer.{Peer}
use Rattle.rtc_peer_core.specs.declared.rtc_error.RtcError.{RtcError}
use Rattle.rtc_peer_core.specs.declared.rtc_error.RtcError.TheVariants.{Glare}

-- the token of the pending offer behind: a polite peer hands it in
abbrev pub pending_behind : (polite : Bool) → Option PendingOffer → Option PendingOffer
pending_behind true token = None
pending_behind false token = token

-- a polite peer rolls its pending offer back, which may be invalidated
abbrev pub TakesBack : {I D S M N : Type 0} → (polite : Bool) → Option PendingOffer → (p q : Peer I D S M N) → Type 0
TakesBack true (Some token) p q = (rolled : Result (Unit {0}) RtcError) × RollsBack (record p { staged = []; undo = [] }) token rolled q
TakesBack true None p q = q ≡ p
TakesBack false token p q = q ≡ p

module _ {I D S M E X T W N : Type 0} (m : Meanings I D S M E X T W N) where
  -- The offer is then accepted as by a handle on which nothing is staged, and answered; or it is refused, which is no error on glare.
  pub data MeetsOffer (offer : Sdp) (p : Peer I D S M N) (r : Result (Option SdpAnswer) RtcError) (q : Peer I D S M N) : Type 0 where
    OfferMet : (answer : SdpAnswer) → AcceptsOffer m (record p { staged = []; undo = [] }) offer (Ok answer.0) q → r ≡ Ok (Some answer)
        → MeetsOffer offer p r q
    OfferPutOff : AcceptsOffer m (record p { staged = []; undo = [] }) offer (Err Glare) q → r ≡ Ok None → MeetsOffer offer p r q
    OfferFailed : (error : RtcError) → (error ≡ Glare → ⊥) → AcceptsOffer m (record p { staged = []; undo = [] }) offer (Err error) q
        → r ≡ Err error
        → MeetsOffer offer p r q

  pub record MeetsCrossed (polite : Bool) (token : Option PendingOffer) (offer : Sdp) (p : Peer I D S M N)
      (r : Result (Option SdpAnswer) RtcError) (q : Peer I D S M N) : Type 0 where
    pub between : Peer I D S M N
    pub withdraws : TakesBack polite token p between
    pub meets : MeetsOffer offer between r q
