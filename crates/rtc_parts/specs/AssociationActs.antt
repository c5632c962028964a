-- What was done to an association, as a list of acts. The acts follow from the meaning of the calls.
use Rattle.std.specs.Prelude.{ℕ, ◌≡◌, ◌==◌, Bool, true, false, List, [], ◌∷◌, ◌++◌, Some, Result, Ok, Err, refl}
use Rattle.std.proofs.Common.{subst}
use Rattle.rtc_wire.specs.declared.reliability_type.ReliabilityType.{ReliabilityType}
use Rattle.rtc_parts.specs.declared.assoc_error.AssocError.{AssocError}
use Rattle.rtc_parts.specs.declared.assoc_event.AssocEvent.{AssocEvent}
use Rattle.rtc_parts.specs.declared.ppi.Ppi.{Ppi}
use Rattle.rtc_parts.specs.Ppi.{ppi_number}
use Rattle.rtc_parts.specs.AssociationMeaning.{AssociationMeaning}
use Rattle.rtc_parts.specs.Why.{Why, Timed, Shut, Other}

-- one act. A generation is that of the stream as the call begins, and a message has the number of its identifier
pub data AssociationAct : Type 0 where
  Started : AssociationAct
  Opened : (stream generation : ℕ) → AssociationAct
  Wrote : (stream generation identifier : ℕ) (bytes : List ℕ) → AssociationAct
  Ended : (stream generation : ℕ) → AssociationAct
  Given : (packet : List ℕ) → AssociationAct
  Taken : (packet : List ℕ) → AssociationAct
  Read : (stream generation identifier : ℕ) (bytes : List ℕ) → AssociationAct
  Told : (event : AssocEvent) → AssociationAct
  Stirred : (why : Why) → AssociationAct

-- whether an act starts the association
abbrev pub starts : AssociationAct → Bool
starts Started = true
starts _ = false

-- whether an act writes a message to a stream
abbrev pub writes_to : ℕ → AssociationAct → Bool
writes_to id (Wrote s g i b) = s == id
writes_to id _ = false

-- the calls that start the association
pub data Starts {S : Type 0} (m : AssociationMeaning S) (p q : S) : Type 0 where
  ByConnect : (now max_send : ℕ) → m.connected p now max_send (Ok tt) q → Starts m p q
  ByAccept : (now max_send : ℕ) → m.accepted p now max_send (Ok tt) q → Starts m p q
  BySnap : (now max_send : ℕ) (local remote : List ℕ) → m.connected_snap p now max_send local remote (Ok tt) q → Starts m p q

-- the calls with which nothing was given, taken, written, read or reported, and that neither pass time nor shut down
pub data Stirs {S : Type 0} (m : AssociationMeaning S) (p q : S) : Type 0 where
  LimitsSet : (max_payload local_max_message : ℕ) → m.limits_set p max_payload local_max_message q → Stirs m p q
  ConnectRefused : (now max_send : ℕ) (e : AssocError) → m.started p ≡ false → m.connected p now max_send (Err e) q → Stirs m p q
  AcceptRefused : (now max_send : ℕ) (e : AssocError) → m.started p ≡ false → m.accepted p now max_send (Err e) q → Stirs m p q
  SnapRefused : (now max_send : ℕ) (local remote : List ℕ) (e : AssocError) → m.started p ≡ false
      → m.connected_snap p now max_send local remote (Err e) q → Stirs m p q
  OpenRefused : (id : ℕ) (e : AssocError) → m.opened p id (Err e) q → Stirs m p q
  WriteRefused : (id : ℕ) (ppi : Ppi) (bytes : List ℕ) (e : AssocError) → m.wrote p id ppi bytes (Err e) q → Stirs m p q
  ReadRefused : (id : ℕ) (e : AssocError) → m.read p id (Err e) q → Stirs m p q
  EndRefused : (id : ℕ) (e : AssocError) → m.ended p id (Err e) q → Stirs m p q
  ThresholdSet : (id n : ℕ) (r : Result (Unit {0}) AssocError) → m.threshold_set p id n r q → Stirs m p q
  ReliabilitySet : (id : ℕ) (unordered : Bool) (t : ReliabilityType) (n : ℕ) (r : Result (Unit {0}) AssocError)
      → m.reliability_set p id unordered t n r q → Stirs m p q

-- an act took the part from p to q
abbrev pub Acted : {S : Type 0} → AssociationMeaning S → S → AssociationAct → S → Type 0
Acted m p Started q = (m.started p ≡ false) × Starts m p q
Acted m p (Opened s g) q = m.opened p s (Ok tt) q × (g ≡ m.generation p s)
Acted m p (Wrote s g i b) q = (ppi : Ppi) × ((n : ℕ) × (m.wrote p s ppi b (Ok n) q × (i ≡ ppi_number ppi) × (g ≡ m.generation p s)))
Acted m p (Ended s g) q = m.ended p s (Ok tt) q × (g ≡ m.generation p s)
Acted m p (Given b) q = (now : ℕ) × ((r : _) × m.given p now b r q)
Acted m p (Taken b) q = m.gave p (Some b) q
Acted m p (Read s g i b) q = (ppi : Ppi) × (m.read p s (Ok (Some (ppi, b))) q × (i ≡ ppi_number ppi) × (g ≡ m.generation p s))
Acted m p (Told e) q = m.polled p (Some e) q
Acted m p (Stirred (Timed now)) q = (r : _) × m.timed p now r q
Acted m p (Stirred Shut) q = (r : _) × m.shut p r q
Acted m p (Stirred Other) q = Stirs m p q

-- whether a call of these sets a threshold and returns Ok
abbrev pub is_threshold_set : {S : Type 0} (m : AssociationMeaning S) (p q : S) → Stirs m p q → Bool
is_threshold_set m p q (ThresholdSet id n (Ok _) h) = true
is_threshold_set m p q _ = false

-- whether an act is such a call
abbrev pub brings_threshold : {S : Type 0} (m : AssociationMeaning S) (p q : S) (act : AssociationAct) → Acted m p act q → Bool
brings_threshold m p q (Stirred Other) h = is_threshold_set m p q h
brings_threshold m p q _ h = false

-- a list of acts took the part from p to q
abbrev pub Moved : {S : Type 0} → AssociationMeaning S → S → List AssociationAct → S → Type 0
Moved m p [] q = q ≡ p
Moved {S} m p (act ∷ acts) q = (r : S) × (Acted m p act r × Moved m r acts q)

-- two moves join to one
pub moved-append : {S : Type 0} (m : AssociationMeaning S) (a b c : S) (xs ys : List AssociationAct) → Moved m a xs b
    → Moved m b ys c → Moved m a (xs ++ ys) c
moved-append {S} m a b c [] ys h k = subst (λ (x : S). Moved m x ys c) h k
moved-append m a b c (x ∷ xs) ys h k = (h.0, (h.1.0, moved-append m h.0 b c xs ys h.1.1 k))

-- one act is a move
pub moved-one : {S : Type 0} (m : AssociationMeaning S) (a b : S) (act : AssociationAct) → Acted m a act b → Moved m a (act ∷ []) b
moved-one m a b act h = (b, (h, refl))
