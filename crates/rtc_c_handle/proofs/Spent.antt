-- A peer that was given the token that was kept.
use mathlib.Core.Path.{◌≡◌}
use Rattle.std.specs.Prelude.{ℕ, [], Bool, Option, Some, None, Result}
use Rattle.rtc_plain_ice.specs.Contents.{IceContents}
use Rattle.rtc_plain_dtls.specs.Contents.{DtlsContents}
use Rattle.rtc_plain_media.specs.MediaContents.{MediaContents}
use Rattle.rtc_assoc_state.specs.Contents.{Contents}
use Rattle.rtc_change.specs.PendingOffer.{PendingOffer}
use Rattle.rtc_peer_core.specs.declared.rtc_error.RtcError.{RtcError}
use Rattle.rtc_peer.specs.CachedPeer.{CachedPeer}
use Rattle.rtc_c_handle.specs.declared.held.Held.{Held}
use Rattle.rtc_c_handle.specs.Negotiation.{SpendsToken, HadToken, had_token}
use Rattle.rtc_c_handle.specs.HeldPeer.{HeldPeer}

pub spent : (calls : HeldPeer → PendingOffer → Result (Unit {0}) RtcError → HeldPeer → Type 0) (h : Held)
    (rtc : CachedPeer IceContents DtlsContents Contents MediaContents ℕ) (left : Option PendingOffer) (token : PendingOffer)
    (returned : Result (Unit {0}) RtcError) (r : Result Bool RtcError)
    → h.token ≡ Some token → left ≡ None → rtc.transport ≡ h.rtc.transport
    → calls (record h.rtc.core { staged = []; undo = [] }) token returned rtc.core → r ≡ had_token returned
    → SpendsToken calls h r (record { rtc = rtc; token = left; text = h.text; wanted = h.wanted; output = h.output })
spent calls h rtc left token returned r has gone same did is =
    HadToken token returned has did is same (λ j. record { rtc = rtc; token = gone j; text = h.text; wanted = h.wanted; output = h.output })
