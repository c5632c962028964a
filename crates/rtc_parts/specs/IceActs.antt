-- What was done to an ICE agent, as a list of acts. The acts follow from the meaning of the calls.
use Rattle.std.specs.Prelude.{ℕ, ◌≡◌, Bool, List, [], ◌∷◌, ◌++◌, Some, Result, refl}
use Rattle.std.proofs.Common.{subst}
use Rattle.std.specs.declared.alloc.AllocError.{AllocError}
use Rattle.rtc_wire.specs.declared.addr.Addr.{Addr}
use Rattle.rtc_wire.specs.declared.protocol.Protocol.{Protocol}
use Rattle.rtc_wire.specs.declared.transmit.Transmit.{Transmit}
use Rattle.rtc_sdp_values.specs.declared.candidate.Candidate.{Candidate}
use Rattle.rtc_sdp_values.specs.declared.ice_creds.IceCreds.{IceCreds}
use Rattle.rtc_parts.specs.declared.ice_event.IceEvent.{IceEvent}
use Rattle.rtc_parts.specs.IceMeaning.{IceMeaning}

-- a call by which nothing was given and nothing taken, with its arguments and its result
pub data IceCall : Type 0 where
  LiteSet : (on : Bool) → IceCall
  ControllingSet : (on : Bool) → IceCall
  LocalSet : (creds : IceCreds) → IceCall
  RemoteSet : (creds : IceCreds) → IceCall
  Restarted : (creds : IceCreds) (keeps : Bool) (answer : Result (Unit {0}) AllocError) → IceCall
  LocalAdded : (candidate : Candidate) (answer : Result Bool AllocError) → IceCall
  RemoteAdded : (candidate : Candidate) (answer : Result Bool AllocError) → IceCall
  Invalidated : (candidate : Candidate) (found : Bool) → IceCall
  TimedAt : (moment : ℕ) (answer : Result (Unit {0}) AllocError) → IceCall
  Told : (event : IceEvent) → IceCall
  RtoSet : (initial max retransmits : ℕ) → IceCall

-- one act: a message that was received, a datagram that was sent, or another call
pub data IceAct : Type 0 where
  Given : (message : List ℕ) → IceAct
  Taken : (transmit : Transmit) → IceAct
  Stirred : (call : IceCall) → IceAct

-- a call took the agent from p to q
abbrev pub IceCalled : {I : Type 0} → IceMeaning I → I → IceCall → I → Type 0
IceCalled m p (LiteSet on) q = m.lite_set p on q
IceCalled m p (ControllingSet on) q = m.controlling_set p on q
IceCalled m p (LocalSet creds) q = m.local_set p creds q
IceCalled m p (RemoteSet creds) q = m.remote_set p creds q
IceCalled m p (Restarted creds keeps answer) q = m.restarted p creds keeps answer q
IceCalled m p (LocalAdded candidate answer) q = m.local_added p candidate answer q
IceCalled m p (RemoteAdded candidate answer) q = m.remote_added p candidate answer q
IceCalled m p (Invalidated candidate found) q = m.invalidated p candidate found q
IceCalled m p (TimedAt moment answer) q = m.timed p moment answer q
IceCalled m p (Told event) q = m.polled p (Some event) q
IceCalled m p (RtoSet initial max retransmits) q = m.rto_set p initial max retransmits q

-- a message took the agent from p to q, whatever was returned
pub data IceGiven {I : Type 0} (m : IceMeaning I) (p : I) (message : List ℕ) (q : I) : Type 0 where
  ByPacket : (now : ℕ) (proto : Protocol) (source destination : Addr) (answer : Result (Unit {0}) AllocError)
      → m.given p now proto source destination message answer q → IceGiven m p message q

-- an act took the agent from p to q
abbrev pub IceActed : {I : Type 0} → IceMeaning I → I → IceAct → I → Type 0
IceActed m p (Given message) q = IceGiven m p message q
IceActed m p (Taken transmit) q = m.gave p (Some transmit) q
IceActed m p (Stirred call) q = IceCalled m p call q

-- a list of acts took the agent from p to q
abbrev pub IceMoved : {I : Type 0} → IceMeaning I → I → List IceAct → I → Type 0
IceMoved m p [] q = q ≡ p
IceMoved {I} m p (act ∷ acts) q = (r : I) × (IceActed m p act r × IceMoved m r acts q)

-- two moves join to one
pub ice_moved-append : {I : Type 0} (m : IceMeaning I) (a b c : I) (xs ys : List IceAct) → IceMoved m a xs b → IceMoved m b ys c
    → IceMoved m a (xs ++ ys) c
ice_moved-append {I} m a b c [] ys h k = subst (λ (x : I). IceMoved m x ys c) h k
ice_moved-append m a b c (x ∷ xs) ys h k = (h.0, (h.1.0, ice_moved-append m h.0 b c xs ys h.1.1 k))

-- one act is a move
pub ice_moved-one : {I : Type 0} (m : IceMeaning I) (a b : I) (act : IceAct) → IceActed m a act b → IceMoved m a (act ∷ []) b
ice_moved-one m a b act h = (b, (h, refl))
