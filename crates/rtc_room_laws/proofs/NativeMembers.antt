-- What is performed on the pair of a member brings in nothing of anybody, and the pair was new.
use Rattle.std.proofs.Common.{◌≡◌, ◌&&◌, ◌++◌, if◌then◌else◌, ℕ, Bool, true, false, true≢false, List, [], ◌∷◌, take, drop, Option, Some, None, Ok, refl, sym, ap, subst}
use Rattle.std.specs.declared.alloc.Global.{Global}
use Rattle.rtc_wire.specs.declared.addr.Addr.{Addr}
use Rattle.rtc_plain_media.specs.declared.plain_media_event.PlainMediaEvent.{PlainMediaEvent}
use Rattle.rtc_peer_transport.specs.declared.handshake.Handshake.TheVariants.{Pending}
use Rattle.rtc_peer_transport.specs.declared.transport.Transport.{Transport}
use Rattle.rtc_run_history.specs.Native.{are_native, is_native}
use Rattle.rtc_run_history.specs.PairState.{rtc_at}
use Rattle.rtc_run_history.specs.Past.{Entry, steps_of}
use Rattle.rtc_run_history.specs.declared.side.Side.{Side}
use Rattle.rtc_run_history.specs.declared.side.Side.TheVariants.{Left, Right}
use Rattle.rtc_run_history.specs.declared.step.Step.{Step}
use Rattle.rtc_run_history.specs.declared.step.Step.TheVariants.{Negotiate, AcceptOffer, AcceptAnswer, Time, Datagram, Poll, Drain}
use Rattle.rtc_run_history.specs.declared.step.Step.TheVariants.{Write, CloseChannel, Close, Rollback, ForeignOffer, ForeignAnswer, Raw}
use Rattle.rtc_run_laws.specs.NewPairs.{IsNewPair, IsNewPeer}
use Rattle.rtc_run.specs.NumberedPair.{IsNumberedPair, default_settings, numbered_address}
use Rattle.rtc_run.specs.ProgramPair.{IsProgramPeer, PlainPairState, PlainPeer, counting, host_at, left_address, program_config}
use Rattle.rtc_run.specs.declared.peer_settings.PeerSettings.{PeerSettings}
use Rattle.rtc_room_laws.specs.Forwarding.{AreTaken, AreWritten, Forwards, WriteEnd, WriteRefused}
use Rattle.rtc_room_laws.specs.Members.{MemberState, is_here}
use Rattle.rtc_room_laws.specs.RoomRuns.{RoomWent, is_step_of, performed_of}
use Rattle.rtc_room_laws.specs.RoomSteps.{RoomEntry, RoomState, TakesHere, TakesOf, TakesStep, is_allowed}
use Rattle.rtc_room_laws.specs.declared.item.Item.{Item}
use Rattle.rtc_room_laws.specs.declared.room_reply.RoomReply.{RoomReply}
use Rattle.rtc_room_laws.specs.declared.room_reply.RoomReply.TheVariants as replied
use Rattle.rtc_room_laws.specs.declared.room_step.RoomStep.{RoomStep}
use Rattle.rtc_room_laws.specs.declared.room_step.RoomStep.TheVariants.{Join, Leave, Perform, Arrive, Forward}

-- ---- steps

-- each entry of a past is one of a step of the pair itself
abbrev pub AreOwn : List (Entry PlainMediaEvent) → Type 0
AreOwn [] = Unit {0}
AreOwn (entry ∷ past) = (is_native entry.step ≡ true) × AreOwn past

own_more : (more past : List (Entry PlainMediaEvent)) → AreOwn more → AreOwn past → AreOwn (more ++ past)
own_more [] past h k = k
own_more (entry ∷ more) past h k = (h.0, own_more more past h.1 k)

native_more : (steps : List Step) (last : Step) → are_native steps ≡ true → is_native last ≡ true → are_native (steps ++ last ∷ []) ≡ true
native_more [] last h k = ap (λ (b : Bool). b && true) k
native_more (step ∷ steps) last h k = by (is_native step) h (λ e. native_more steps last e k)
  where
    by : (b : Bool) → (b && are_native steps) ≡ true → (are_native steps ≡ true → are_native (steps ++ last ∷ []) ≡ true)
        → (b && are_native (steps ++ last ∷ [])) ≡ true
    by true e rest = rest e
    by false e rest = absurd (true≢false (sym e))

pub own_native : (past : List (Entry PlainMediaEvent)) → AreOwn past → are_native (steps_of past) ≡ true
own_native [] h = refl
own_native (entry ∷ past) h = native_more (steps_of past) entry.step (own_native past h.1) h.0

allowed_native : (step : Step) → is_allowed step ≡ true → is_native step ≡ true
allowed_native (Negotiate at ops apply) h = refl
allowed_native (AcceptOffer at offer) h = refl
allowed_native (AcceptAnswer at token answer) h = refl
allowed_native (Time at now) h = refl
allowed_native (Datagram at packet now) h = refl
allowed_native (Poll at) h = refl
allowed_native (Drain at) h = refl
allowed_native (Write at channel binary bytes) h = refl
allowed_native (CloseChannel at channel) h = refl
allowed_native (Close at) h = refl
allowed_native (Rollback at token) h = refl
allowed_native (ForeignOffer at text) h = absurd (true≢false (sym h))
allowed_native (ForeignAnswer at token text) h = absurd (true≢false (sym h))
allowed_native (Raw at bytes now) h = absurd (true≢false (sym h))

taken_own : (c : ℕ) (items : List Item) (performed : List (Entry PlainMediaEvent)) → AreTaken c items performed → AreOwn performed
taken_own c items [] h = tt
taken_own c items (entry ∷ performed) h = (ap is_native h.3, taken_own c h.0 performed h.5)

written_own : (c : ℕ) (items : List Item) (end : Option WriteEnd) (left : List Item) (performed : List (Entry PlainMediaEvent))
    → AreWritten c items end left performed → AreOwn performed
written_own c items None left performed h = taken_own c items performed h.0
written_own c items (Some end) [] performed h = absurd h
written_own c items (Some end) (next ∷ left) [] h = absurd h
written_own c items (Some end) (next ∷ left) (entry ∷ performed) h = (ap is_native h.1, taken_own c items performed h.0)

none_own : (performed : List (Entry PlainMediaEvent)) → performed ≡ [] → AreOwn performed
none_own performed none = subst (λ (l : List (Entry PlainMediaEvent)). AreOwn l) (sym none) tt

forwarded_own : (out : Bool) (line : Option ℕ) (member : MemberState) (before : PlainPairState) (reply : RoomReply) (performed : List (Entry PlainMediaEvent))
    (member' : MemberState) (after : PlainPairState) → Forwards out line member before reply performed member' after → AreOwn performed
forwarded_own true line member before replied.PutOut performed member' after h = none_own performed h.0
forwarded_own false None member before (replied.Forwarded taken) performed member' after h = none_own performed h.0
forwarded_own false (Some c) member before (replied.Forwarded taken) performed member' after h =
    written_own c (take taken member.queue) h.0 (drop taken member.queue) performed h.2.written
forwarded_own false (Some c) member before replied.PutOut performed member' after h =
    written_own c (take h.0 member.queue) (Some (WriteRefused h.1)) (drop h.0 member.queue) performed h.2.written
forwarded_own out line member before reply performed member' after h = absurd h

one_own : (entry : Entry PlainMediaEvent) (performed : List (Entry PlainMediaEvent)) → performed ≡ entry ∷ [] → is_native entry.step ≡ true → AreOwn performed
one_own entry performed is native = subst (λ (l : List (Entry PlainMediaEvent)). AreOwn l) (sym is) (native, tt)

here_own : (step : RoomStep) (reply : RoomReply) (old new : RoomState) (performed : List (Entry PlainMediaEvent)) → TakesHere step reply old performed new
    → AreOwn performed
here_own (Leave k) replied.Left old new performed h = none_own performed h.performed_is
here_own (Perform k step) replied.NotAllowed old new performed h = none_own performed h.1.performed_is
here_own (Perform k step) (replied.Performed reply) old new performed h = one_own _ performed h.1.pair.performed_is (allowed_native step h.0)
here_own (Arrive k packet now) replied.NoMember old new performed h = none_own performed h.3.performed_is
here_own (Arrive k packet now) (replied.Performed reply) old new performed h = one_own _ performed h.1.pair.performed_is refl
here_own (Forward k) reply old new performed h =
    forwarded_own h.member.is_put_out h.member.line h.member h.before reply performed h.member' h.after h.forwards
here_own step reply old new performed h = absurd h

of_own : (here : Bool) (step : RoomStep) (reply : RoomReply) (old new : RoomState) (performed : List (Entry PlainMediaEvent))
    → TakesOf here step reply old performed new → AreOwn performed
of_own false step reply old new performed h = none_own performed h.1.performed_is
of_own true step reply old new performed h = here_own step reply old new performed h

step_own : (alloc : Global) (step : RoomStep) (reply : RoomReply) (old new : RoomState) (performed : List (Entry PlainMediaEvent))
    → TakesStep alloc step reply old performed new → AreOwn performed
step_own alloc (Join room) reply old new performed h = none_own performed h.1
step_own alloc (Leave k) reply old new performed h = of_own (is_here k old.members) (Leave k) reply old new performed h
step_own alloc (Perform k step) reply old new performed h = of_own (is_here k old.members) (Perform k step) reply old new performed h
step_own alloc (Arrive k packet now) reply old new performed h = of_own (is_here k old.members) (Arrive k packet now) reply old new performed h
step_own alloc (Forward k) reply old new performed h = of_own (is_here k old.members) (Forward k) reply old new performed h

pub room_own : (alloc : Global) (k : ℕ) (past : List RoomEntry) (room : RoomState) → RoomWent alloc past room → AreOwn (performed_of k past)
room_own alloc k [] room went = tt
room_own alloc k (entry ∷ past) room went = by (is_step_of k entry.step) (room_own alloc k past went.0 went.1)
  where
    by : (b : Bool) → AreOwn (performed_of k past) → AreOwn (if b then entry.performed ++ performed_of k past else performed_of k past)
    by true earlier =
        own_more entry.performed (performed_of k past) (step_own alloc entry.step entry.reply went.0 room entry.performed went.2) earlier
    by false earlier = earlier

-- ---- the pair of a member

peer_is_new : (alloc : Global) (settings : PeerSettings) (cert : List ℕ) (first : ℕ) (addr : Addr) (p : PlainPeer)
    → IsProgramPeer alloc settings cert first addr p → IsNewPeer counting p
peer_is_new alloc settings cert first addr p h = record {
  alloc = alloc;
  config = program_config settings cert;
  start = 0;
  first = first;
  built = h.built;
  by_build = h.by_build;
  candidates = host_at addr ∷ [];
  by_candidates = (p.ice, (Ok true, (h.by_address, refl)));
  rest = h.rest;
}

numbered_pending : (alloc : Global) (number : ℕ) (pair : PlainPairState) → IsNumberedPair alloc number pair → (at : Side)
    → (rtc_at at pair).transport.handshake ≡ Pending
numbered_pending alloc number pair h Left = ap (λ (t : Transport). t.handshake) h.left_transport
numbered_pending alloc number pair h Right = ap (λ (t : Transport). t.handshake) h.right_transport

pub numbered_is_new : (alloc : Global) (number : ℕ) (pair : PlainPairState) → IsNumberedPair alloc number pair → IsNewPair counting pair
numbered_is_new alloc number pair h = record {
  left = peer_is_new alloc default_settings _ _ left_address pair.left.core h.left;
  right = peer_is_new alloc default_settings _ _ (numbered_address number) pair.right.core h.right;
  pending = λ at. numbered_pending alloc number pair h at;
  packets = h.packets;
}
