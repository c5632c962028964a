-- Changes that are staged at a peer, and applied.
use Rattle.std.proofs.Common.{◌≡◌, List, Option, Some, None, Result, Ok, Err, refl, sym, subst, ap, ◌∙◌}
use Rattle.std.specs.declared.alloc.AllocError.{AllocError}
use Rattle.rtc_lines.specs.declared.sdp_offer.SdpOffer.{SdpOffer}
use Rattle.rtc_change.specs.PendingOffer.{PendingOffer}
use Rattle.rtc_peer_core.specs.Calls.{Applies}
use Rattle.rtc_peer_core.specs.declared.rtc_error.RtcError.{RtcError}
use Rattle.rtc_peer_core.specs.declared.rtc_error.RtcError.TheVariants as errors
use Rattle.rtc_peer.specs.Described.{sdp_of_offer}
use Rattle.rtc.specs.PlainPeers.{memory_parts}
use Rattle.rtc_c_handle.specs.HeldPeer.{HeldPeer}
use Rattle.rtc_c_handle.specs.WantedChanges.{StagesChanges, MakesOffer, IsNotStaged, IsNotApplied, unstaged}
use Rattle.rtc_c_handle.specs.declared.made.Made.TheVariants.{Offer, Nothing, Failed}
use Rattle.rtc_c_handle.specs.declared.wanted_change.WantedChange.{WantedChange}

here : (old p between : HeldPeer) (changes : List WantedChange) (r : Result (Unit {0}) RtcError) → p ≡ unstaged old
    → StagesChanges changes p r between → StagesChanges changes (unstaged old) r between
here old p between changes r is staged = subst (λ (x : HeldPeer). StagesChanges changes x r between) is staged

then : (between r q : HeldPeer) (result made : Result (Option (SdpOffer × PendingOffer)) AllocError) → result ≡ made
    → Applies memory_parts between (sdp_of_offer result) r → q ≡ r → Applies memory_parts between (sdp_of_offer made) q
then between r q result made is applied same =
    subst (λ (x : HeldPeer). Applies memory_parts between (sdp_of_offer made) x) (sym same)
    (subst (λ (x : Result (Option (SdpOffer × PendingOffer)) AllocError). Applies memory_parts between (sdp_of_offer x) r) is applied)

pub not_staged : (old p between q : HeldPeer) (changes : List WantedChange) (error : RtcError) → p ≡ unstaged old
    → StagesChanges changes p (Err error) between → q ≡ between → MakesOffer changes old (Failed error) q
not_staged old p between q changes error is staged same =
    IsNotStaged (subst (λ (x : HeldPeer). StagesChanges changes (unstaged old) (Err error) x) (sym same)
    (here old p between changes (Err error) is staged))

pub offered : (old p between r q : HeldPeer) (changes : List WantedChange) (result : Result (Option (SdpOffer × PendingOffer)) AllocError)
    (made : Option (SdpOffer × PendingOffer)) (offer : SdpOffer) (token : PendingOffer) → p ≡ unstaged old
    → StagesChanges changes p (Ok tt) between → result ≡ Ok made → made ≡ Some (offer, token)
    → Applies memory_parts between (sdp_of_offer result) r → q ≡ r → MakesOffer changes old (Offer offer token) q
offered old p between r q changes result made offer token is staged result_is made_is applied same = (
  between,
  here old p between changes (Ok tt) is staged,
  then between r q result (Ok (Some (offer, token))) (result_is ∙ ap Ok made_is) applied same,
)

pub unsaid : (old p between r q : HeldPeer) (changes : List WantedChange) (result : Result (Option (SdpOffer × PendingOffer)) AllocError)
    (made : Option (SdpOffer × PendingOffer)) → p ≡ unstaged old → StagesChanges changes p (Ok tt) between → result ≡ Ok made → made ≡ None
    → Applies memory_parts between (sdp_of_offer result) r → q ≡ r → MakesOffer changes old Nothing q
unsaid old p between r q changes result made is staged result_is made_is applied same =
    (between, here old p between changes (Ok tt) is staged, then between r q result (Ok None) (result_is ∙ ap Ok made_is) applied same)

pub not_applied : (old p between r q : HeldPeer) (changes : List WantedChange) (result : Result (Option (SdpOffer × PendingOffer)) AllocError)
    (e : AllocError) → p ≡ unstaged old → StagesChanges changes p (Ok tt) between → result ≡ Err e
    → Applies memory_parts between (sdp_of_offer result) r → q ≡ r → MakesOffer changes old (Failed errors.Alloc) q
not_applied old p between r q changes result e is staged result_is applied same =
    IsNotApplied between (here old p between changes (Ok tt) is staged) refl (then between r q result (Err e) result_is applied same)
