-- What an offer leaves of a peer that is kept.
use Rattle.std.proofs.Common.{◌≡◌, List, [], Some, refl, sym, subst, ap, ◌∙◌}
use Rattle.rtc_lines.specs.declared.sdp_offer.SdpOffer.{SdpOffer}
use Rattle.rtc_change.specs.PendingOffer.{PendingOffer}
use Rattle.rtc_peer_core.specs.declared.rtc_error.RtcError.{RtcError}
use Rattle.rtc_c_handle.specs.Negotiation.{Offers, IsOffered, IsUnsaid, IsNotOffered, WritesOffer}
use Rattle.rtc_c_handle.specs.HeldPeer.{HeldPeer, HeldCachedRtc}
use Rattle.rtc_c_handle.specs.Statuses.{status_of_error}
use Rattle.rtc_c_handle.specs.WantedChanges.{MakesOffer}
use Rattle.rtc_c_handle.specs.declared.held.Held.{Held}
use Rattle.rtc_c_handle.specs.declared.made.Made.{Made}
use Rattle.rtc_c_handle.specs.declared.made.Made.TheVariants.{Offer, Nothing, Failed}
use Rattle.rtc_c_handle.specs.declared.status.Status.{Status}
use Rattle.rtc_c_handle.specs.declared.status.Status.TheVariants.{NothingToOffer}
use Rattle.rtc_c_handle.specs.declared.wanted_change.WantedChange.{WantedChange}

of_wanted : (h : Held) (slice : List WantedChange) (made : Made) (q : HeldPeer) → slice ≡ h.wanted → MakesOffer slice h.rtc.core made q
    → MakesOffer h.wanted h.rtc.core made q
of_wanted h slice made q is makes = subst (λ (wanted : List WantedChange). MakesOffer wanted h.rtc.core made q) is makes

pub keeps_offer : (h g : Held) (rtc : HeldCachedRtc) (slice left : List WantedChange) (offer : SdpOffer) (token : PendingOffer) (status : Status)
    → slice ≡ h.wanted → MakesOffer slice h.rtc.core (Offer offer token) rtc.core → rtc.transport ≡ h.rtc.transport → left ≡ []
    → WritesOffer offer.0 h.text status g.text
    → g ≡ record { rtc = rtc; token = Some token; text = g.text; wanted = left; output = h.output } → Offers h status g
keeps_offer h g rtc slice left offer token status slice_is makes same none writes is =
    let whole : rtc ≡ g.rtc = ap (λ (held : Held). held.rtc) (sym is) in
    let core : rtc.core ≡ g.rtc.core = ap (λ (held : Held). held.rtc.core) (sym is) in
    IsOffered offer token (subst (λ (q : HeldPeer). MakesOffer h.wanted h.rtc.core (Offer offer token) q) core (of_wanted h slice (Offer offer token) rtc.core slice_is makes)) writes
    (ap (λ (held : Held). held.rtc.transport) is ∙ same)
    (is ∙ (λ j. record { rtc = whole j; token = Some token; text = g.text; wanted = none j; output = h.output }))

pub keeps_nothing : (h : Held) (rtc : HeldCachedRtc) (slice left : List WantedChange) → slice ≡ h.wanted
    → MakesOffer slice h.rtc.core Nothing rtc.core → rtc.transport ≡ h.rtc.transport → left ≡ []
    → Offers h NothingToOffer (record { rtc = rtc; token = h.token; text = h.text; wanted = left; output = h.output })
keeps_nothing h rtc slice left slice_is makes same none =
    IsUnsaid (of_wanted h slice Nothing rtc.core slice_is makes) refl same
    (λ j. record { rtc = rtc; token = h.token; text = h.text; wanted = none j; output = h.output })

pub keeps_wanted : (h : Held) (rtc : HeldCachedRtc) (slice : List WantedChange) (error : RtcError) (status : Status) → slice ≡ h.wanted
    → MakesOffer slice h.rtc.core (Failed error) rtc.core → rtc.transport ≡ h.rtc.transport → status ≡ status_of_error error
    → Offers h status (record { rtc = rtc; token = h.token; text = h.text; wanted = h.wanted; output = h.output })
keeps_wanted h rtc slice error status slice_is makes same is =
    IsNotOffered error (of_wanted h slice (Failed error) rtc.core slice_is makes) is same refl
