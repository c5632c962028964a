-- What the ICE agent and the DTLS part follow, one act after another.
use Rattle.std.proofs.Common.{◌≡◌, ◌∙◌, ℕ, List, [], ◌∷◌, Bool, true, Option, Some, None, Result, Ok, Err, length, refl, ap, subst, arith}
use Rattle.std.specs.declared.alloc.AllocError.{AllocError}
use Rattle.rtc_sdp_values.specs.declared.candidate.Candidate.{Candidate}
use Rattle.rtc_parts.specs.IceMeaning.{IceMeaning}
use Rattle.rtc_parts.specs.declared.dtls_error.DtlsError.{DtlsError}
use Rattle.rtc_parts.specs.DtlsMeaning.{DtlsMeaning}
use Rattle.rtc_parts.specs.DtlsState.{DtlsState, SetsRole, HandsOn}
use Rattle.rtc_peer_core.specs.PartMoves.{TakesCandidates, begun_answer, BeginsHandshake, BeginsTimed, TakesRole}

-- what is taken of the candidates that are left is taken of all
abbrev pub TakesLast : {I : Type 0} → IceMeaning I → I → List Candidate → I → List Candidate → Type 0
TakesLast {I} ice p all b rest = (r : Result (Unit {0}) AllocError) → (q : I) → TakesCandidates ice b rest r q → TakesCandidates ice p all r q

-- one candidate more is taken
pub takes_one_more : {I : Type 0} (ice : IceMeaning I) (p b c : I) (all rest more : List Candidate) (candidate : Candidate) (taken : Bool)
    → rest ≡ candidate ∷ more → TakesLast ice p all b rest → ice.remote_added b candidate (Ok taken) c → TakesLast ice p all c more
takes_one_more ice p b c all rest more candidate taken is last added = λ r q takes.
    last r q (rw is (c, Ok taken, added, takes))

-- memory lacks for one
pub takes_no_more : {I : Type 0} (ice : IceMeaning I) (p b c : I) (all rest more : List Candidate) (candidate : Candidate) (error : AllocError)
    → rest ≡ candidate ∷ more → TakesLast ice p all b rest → ice.remote_added b candidate (Err error) c → TakesCandidates ice p all (Err error) c
takes_no_more ice p b c all rest more candidate error is last added = last (Err error) c (rw is (c, Err error, added, (refl, refl)))

none_of_length : (xs : List Candidate) → length xs ≡ 0 → xs ≡ []
none_of_length [] is = refl
none_of_length (x ∷ xs) is = absurd (omega arith)

-- all are taken
pub takes_all : {I : Type 0} (ice : IceMeaning I) (p b : I) (all rest : List Candidate) → length rest ≡ 0 → TakesLast ice p all b rest → TakesCandidates ice p all (Ok tt) b
takes_all ice p b all rest is last = last (Ok tt) b (rw (none_of_length rest is) (refl, refl))

-- a role is taken where there was none
abbrev pub TimedAt : {D : Type 0} → DtlsMeaning D → ℕ → D → Result (Unit {0}) DtlsError → D → Type 0
TimedAt dtls now i r j = dtls.timed i now r j

abbrev pub GivenNothing : {D : Type 0} → DtlsMeaning D → D → Result (Unit {0}) DtlsError → D → Type 0
GivenNothing dtls i r j = dtls.given i [] r j

set_role : {D : Type 0} (dtls : DtlsMeaning D) (p a : DtlsState D) (active : Bool) → p.active ≡ None → SetsRole dtls p p.active active a → SetsRole dtls p None active a
set_role dtls p a active none set = subst (λ (o : Option Bool). SetsRole dtls p o active a) none set

timed_role : {D : Type 0} (dtls : DtlsMeaning D) (a t : DtlsState D) (active : Bool) (now : ℕ) (r : Result (Unit {0}) DtlsError) → a.active ≡ Some active
    → HandsOn dtls a a.active (TimedAt dtls now) r t → HandsOn dtls a (Some active) (TimedAt dtls now) r t
timed_role dtls a t active now r is timed = subst (λ (o : Option Bool). HandsOn dtls a o (TimedAt dtls now) r t) is timed

pushed_role : {D : Type 0} (dtls : DtlsMeaning D) (t q : DtlsState D) (active : Bool) (r : Result (Unit {0}) DtlsError) → t.active ≡ Some active
    → HandsOn dtls t t.active (GivenNothing dtls) r q → HandsOn dtls t (Some active) (GivenNothing dtls) r q
pushed_role dtls t q active r is given = subst (λ (o : Option Bool). HandsOn dtls t o (GivenNothing dtls) r q) is given

-- a role that is taken, by what each call did
pub takes_role : {D : Type 0} (dtls : DtlsMeaning D) (p a t q : DtlsState D) (active : Bool) (now : ℕ) (answer r : Result (Unit {0}) DtlsError) → p.active ≡ None
    → SetsRole dtls p p.active active a → HandsOn dtls a a.active (TimedAt dtls now) answer t → BeginsTimed dtls answer active t.instance r q.instance
    → q ≡ record t { instance = q.instance } → TakesRole dtls p active now r q
takes_role dtls p a t q active now answer r none set0 timed0 begins others =
    let set = set_role dtls p a active none set0 in
    let timed = timed_role dtls a t active now answer (ap (λ x. x.active) set.1) timed0 in
    record {
      activated = a.instance;
      timed = t.instance;
      answer = answer;
      by_role = set.0;
      by_time = timed.0;
      by_packet = begins;
      rest = others ∙ ap (λ (x : DtlsState _). record x { instance = q.instance }) (timed.1 ∙ ap (λ (x : DtlsState _). record x { instance = t.instance }) set.1);
    }

-- the role that is set stays as the timer is told
pub role_stays : {D : Type 0} (dtls : DtlsMeaning D) (p a t : DtlsState D) (active : Bool) (now : ℕ) (answer : Result (Unit {0}) DtlsError) → p.active ≡ None
    → SetsRole dtls p p.active active a → HandsOn dtls a a.active (TimedAt dtls now) answer t → t.active ≡ Some active
role_stays dtls p a t active now answer none set0 timed0 =
    let set = set_role dtls p a active none set0 in
    let timed = timed_role dtls a t active now answer (ap (λ x. x.active) set.1) timed0 in
    ap (λ x. x.active) timed.1 ∙ ap (λ x. x.active) set.1

-- an active side begins by a packet of no bytes
pub begins_handshake : {D : Type 0} (dtls : DtlsMeaning D) (t q : DtlsState D) (answer r : Result (Unit {0}) DtlsError) → t.active ≡ Some true
    → HandsOn dtls t t.active (GivenNothing dtls) answer q → r ≡ begun_answer answer → BeginsHandshake dtls true t.instance r q.instance
begins_handshake dtls t q answer r role given0 is = (answer, (pushed_role dtls t q true answer role given0).0, is)

pub begins_alone : {D : Type 0} (dtls : DtlsMeaning D) (t q : DtlsState D) (answer : Result (Unit {0}) DtlsError) → t.active ≡ Some true
    → HandsOn dtls t t.active (GivenNothing dtls) answer q → q ≡ record t { instance = q.instance }
begins_alone dtls t q answer role given0 = (pushed_role dtls t q true answer role given0).1
