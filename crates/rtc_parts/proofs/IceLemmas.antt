-- What lists of acts of an ICE agent gave, took and set.
use Rattle.std.proofs.Common.{◌≡◌, ℕ, true, false, List, [], ◌∷◌, ◌++◌, Ok, Err, refl, ap}
use Rattle.rtc_parts.specs.IceMeaning.{IceMeaning}
use Rattle.rtc_parts.specs.IceActs.{IceAct, IceCall, IceActed, IceCalled, IceGiven, ByPacket, IceMoved, Given, Taken, Stirred, LiteSet, ControllingSet, LocalSet, RemoteSet, Restarted, LocalAdded, RemoteAdded, Invalidated, TimedAt, Told, RtoSet}
use Rattle.rtc_parts.specs.IceWords.{ice_given, ice_taken, CallSets, ActSets, ActsSet}
use Rattle.rtc_parts.specs.IceLaws.{IceLaws}

pub ice_given-append : (xs ys : List IceAct) → ice_given (xs ++ ys) ≡ ice_given xs ++ ice_given ys
ice_given-append [] ys = refl
ice_given-append (Given b ∷ xs) ys = ap (λ l. b ∷ l) (ice_given-append xs ys)
ice_given-append (_ ∷ xs) ys = ice_given-append xs ys

pub ice_taken-append : (xs ys : List IceAct) → ice_taken (xs ++ ys) ≡ ice_taken xs ++ ice_taken ys
ice_taken-append [] ys = refl
ice_taken-append (Taken t ∷ xs) ys = ap (λ l. t ∷ l) (ice_taken-append xs ys)
ice_taken-append (_ ∷ xs) ys = ice_taken-append xs ys

call_sets : {I : Type 0} (m : IceMeaning I) → IceLaws m → (p q : I) (call : IceCall) → IceCalled m p call q → CallSets (m.settings p) call (m.settings q)
call_sets m w p q (LiteSet on) h = w.lite_settings p q on h
call_sets m w p q (ControllingSet on) h = w.controlling_settings p q on h
call_sets m w p q (LocalSet c) h = w.local_settings p q c h
call_sets m w p q (RemoteSet c) h = w.remote_settings p q c h
call_sets m w p q (Restarted c k (Ok x)) h = w.restart_settings p q c k h
call_sets m w p q (Restarted c k (Err e)) h = w.restart_refused p q c k e h
call_sets m w p q (LocalAdded c (Ok true)) h = w.added_settings p q c h
call_sets m w p q (LocalAdded c (Ok false)) h = w.known_settings p q c h
call_sets m w p q (LocalAdded c (Err e)) h = w.add_refused p q c e h
call_sets m w p q (RemoteAdded c r) h = w.remote_added_settings p q c r h
call_sets m w p q (Invalidated c true) h = let k = w.invalidated_settings p q c h in (k.others, k.candidates)
call_sets m w p q (Invalidated c false) h = w.not_found_settings p q c h
call_sets m w p q (TimedAt now r) h = w.timed_settings p q now r h
call_sets m w p q (Told e) h = w.polled_settings p q e h
call_sets m w p q (RtoSet i x n) h = w.rto_settings p q i x n h

given_sets : {I : Type 0} (m : IceMeaning I) → IceLaws m → (p q : I) (message : List ℕ) → IceGiven m p message q → m.settings q ≡ m.settings p
given_sets m w p q message (ByPacket now proto source destination r h) = w.given_settings p q now proto source destination message r h

-- each act sets what its call says, and nothing else
pub act_sets : {I : Type 0} (m : IceMeaning I) → IceLaws m → (p q : I) (act : IceAct) → IceActed m p act q → ActSets (m.settings p) act (m.settings q)
act_sets m w p q (Given message) h = given_sets m w p q message h
act_sets m w p q (Taken t) h = w.gave_settings p q t h
act_sets m w p q (Stirred call) h = call_sets m w p q call h

-- so does a list of acts
pub moved_settings : {I : Type 0} (m : IceMeaning I) → IceLaws m → (p q : I) (acts : List IceAct) → IceMoved m p acts q → ActsSet (m.settings p) acts (m.settings q)
moved_settings m w p q [] h = ap m.settings h
moved_settings m w p q (act ∷ acts) h = (m.settings h.0, (act_sets m w p h.0 act h.1.0, moved_settings m w h.0 q acts h.1.1))
