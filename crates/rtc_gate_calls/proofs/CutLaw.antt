-- Calls that differ in how a feed was cut leave the same gate.
use Rattle.std.proofs.Common.{◌≡◌, ℕ, ◌==◌, ◌∙◌, Bool, true, false, List, [], ◌∷◌, ◌++◌, map, Option, Some, None, refl, ap, sym, cond, arith, append_assoc, append-nil}
use Rattle.std.proofs.lemmas.Bool.Decides.{nat_tests}
use Rattle.std.proofs.lemmas.List.{map-append}
use Rattle.std.specs.List.{concat}
use Rattle.rtc_gate_calls.specs.Routing.{Letter, letter_of, mail_for}
use Rattle.rtc_gate_calls.specs.GateState.{ConnectionState, GateState, Incoming, roster_entry, roster_of, connection_numbered, resumed, arriving, letters_of, after_mail, fed_connections, after_feed}
use Rattle.rtc_gate_calls.specs.Replies.{after_call}
use Rattle.rtc_gate_calls.specs.History.{GateEvent, calls_made}
use Rattle.rtc_gate_calls.specs.Histories.{empty_gate, gate_after, NeverRanOut, AreCutApart}
use Rattle.rtc_gate_calls.specs.declared.gate_call.GateCall.{GateCall}
use Rattle.rtc_gate_calls.specs.declared.gate_call.GateCall.TheVariants.{Feed}
use Rattle.rtc_gate_calls.proofs.ConnectionLemmas.{map_alike, map_twice}
use Rattle.rtc_gate_calls.proofs.CutLemmas.{resumed_twice, arriving_twice}
use Rattle.rtc_gate_calls.proofs.FoundLemmas.{map_numbered, changed_by}

pub mail_append : (n : ℕ) (xs ys : List Letter) → mail_for n (xs ++ ys) ≡ mail_for n xs ++ mail_for n ys
mail_append n [] ys = refl
mail_append n (x ∷ xs) ys = go (x.to == n) (mail_append n xs ys)
  where
    go : (its : Bool) → mail_for n (xs ++ ys) ≡ mail_for n xs ++ mail_for n ys → cond its (x.frame ∷ mail_for n (xs ++ ys)) (mail_for n (xs ++ ys)) ≡ cond its (x.frame ∷ mail_for n xs) (mail_for n xs) ++ mail_for n ys
    go true rest = ap (λ (fs : List (List ℕ)). x.frame ∷ fs) rest
    go false rest = rest

-- a feed changes no name and no number
pub roster_fed : (sender : ℕ) (piece : List ℕ) (letters : List Letter) (cs : List ConnectionState) → roster_of (map (after_mail sender piece letters) cs) ≡ roster_of cs
roster_fed sender piece letters cs = map_twice roster_entry (after_mail sender piece letters) cs ∙ map_alike (λ c. roster_entry (after_mail sender piece letters c)) roster_entry (λ c. refl) cs

-- what each connection has of one feed and then another
each_twice : (sender : ℕ) (p q : List ℕ) (first second both : List Letter) → first ++ second ≡ both → (c : ConnectionState) → after_mail sender q second (after_mail sender p first c) ≡ after_mail sender (p ++ q) both c
each_twice sender p q first second both all c =
    let queue : (c.queue ++ mail_for c.number first) ++ mail_for c.number second ≡ c.queue ++ mail_for c.number both =
    append_assoc c.queue (mail_for c.number first) (mail_for c.number second)
    ∙ ap (λ (fs : List (List ℕ)). c.queue ++ fs) (sym (mail_append c.number first second) ∙ ap (mail_for c.number) all) in
    let with : Incoming → List (List ℕ) → ConnectionState = λ i fs. record { number = c.number; name = c.name; incoming = i; queue = fs } in
    ap (λ (i : Incoming). with i ((c.queue ++ mail_for c.number first) ++ mail_for c.number second)) (go (c.number == sender))
    ∙ ap (with (cond (c.number == sender) (resumed c.incoming (p ++ q)) c.incoming)) queue
  where
    go : (its : Bool) → cond its (resumed (cond its (resumed c.incoming p) c.incoming) q) (cond its (resumed c.incoming p) c.incoming) ≡ cond its (resumed c.incoming (p ++ q)) c.incoming
    go true = resumed_twice c.incoming p q
    go false = refl

letters_twice : (roster : List (ℕ × List ℕ)) (s : ConnectionState) (p q : List ℕ) (later : Incoming) → later ≡ resumed s.incoming p → letters_of roster s p ++ map (letter_of roster s.number s.name) (arriving later q) ≡ letters_of roster s (p ++ q)
letters_twice roster s p q later is =
    ap (λ (i : Incoming). letters_of roster s p ++ map (letter_of roster s.number s.name) (arriving i q)) is
    ∙ sym (map-append (letter_of roster s.number s.name) (arriving s.incoming p) (arriving (resumed s.incoming p) q))
    ∙ ap (map (letter_of roster s.number s.name)) (arriving_twice s.incoming p q)

fed_twice : (n : ℕ) (p q : List ℕ) (cs : List ConnectionState) (o : Option ConnectionState) → connection_numbered cs n ≡ o → fed_connections (connection_numbered (fed_connections o cs p) n) (fed_connections o cs p) q ≡ fed_connections o cs (p ++ q)
fed_twice n p q cs None is = ap (λ (o : Option ConnectionState). fed_connections o cs q) is
fed_twice n p q cs (Some s) is =
    let letters : List Letter = letters_of (roster_of cs) s p in
    let f : ConnectionState → ConnectionState = after_mail s.number p letters in
    let found : connection_numbered (map f cs) n ≡ Some (f s) = map_numbered f (λ c. refl) cs n ∙ ap (changed_by f) is in
    let mine : (s.number == s.number) ≡ true = grind (arith, nat_tests) in
    let later : (f s).incoming ≡ resumed s.incoming p = ap (λ (b : Bool). cond b (resumed s.incoming p) s.incoming) mine in
    let second : List (ℕ × List ℕ) → List Letter = λ roster. map (letter_of roster s.number s.name) (arriving (f s).incoming q) in
    let roster : roster_of (map f cs) ≡ roster_of cs = roster_fed s.number p letters cs in
    ap (λ (o : Option ConnectionState). fed_connections o (map f cs) q) found
    ∙ ap (λ (r : List (ℕ × List ℕ)). map (after_mail s.number q (second r)) (map f cs)) roster
    ∙ map_twice (after_mail s.number q (second (roster_of cs))) f cs
    ∙ map_alike (λ c. after_mail s.number q (second (roster_of cs)) (f c)) (after_mail s.number (p ++ q) (letters_of (roster_of cs) s (p ++ q)))
    (each_twice s.number p q letters (second (roster_of cs)) (letters_of (roster_of cs) s (p ++ q)) (letters_twice (roster_of cs) s p q (f s).incoming later)) cs

-- two feeds are one
pub feed_twice : (gate : GateState) (n : ℕ) (p q : List ℕ) → after_feed (after_feed gate n p) n q ≡ after_feed gate n (p ++ q)
feed_twice gate n p q = ap (λ (cs : List ConnectionState). let g : GateState = record { joined = gate.joined; connections = cs } in g) (fed_twice n p q gate.connections (connection_numbered gate.connections n) refl)

-- the gate that calls leave, running out of memory aside
abbrev pub gate_from : GateState → List GateCall → GateState
gate_from gate [] = gate
gate_from gate (call ∷ calls) = gate_from (after_call gate call) calls

from_append : (gate : GateState) (xs ys : List GateCall) → gate_from gate (xs ++ ys) ≡ gate_from (gate_from gate xs) ys
from_append gate [] ys = refl
from_append gate (x ∷ xs) ys = from_append (after_call gate x) xs ys

from_feeds : (gate : GateState) (n : ℕ) (first : List ℕ) (more : List (List ℕ)) → gate_from gate (Feed n first ∷ map (Feed n) more) ≡ after_feed gate n (first ++ concat more)
from_feeds gate n first [] = ap (after_feed gate n) (sym (append-nil first))
from_feeds gate n first (next ∷ more) = from_feeds (after_feed gate n first) n next more ∙ feed_twice gate n first (next ++ concat more)

pub left_from : (past : List GateEvent) → NeverRanOut past → gate_after past ≡ gate_from empty_gate (calls_made past)
left_from [] enough = refl
left_from (event ∷ past) enough =
    ap (λ (b : Bool). cond b (gate_after past) (after_call (gate_after past) event.call)) enough.0
    ∙ ap (λ (gate : GateState). after_call gate event.call) (left_from past enough.1)
    ∙ sym (from_append empty_gate (calls_made past) (event.call ∷ []))

cut_same : (whole cut : List GateCall) → AreCutApart whole cut → gate_from empty_gate whole ≡ gate_from empty_gate cut
cut_same whole cut apart =
    let gate : GateState = gate_from empty_gate apart.before in
    let feeds : List GateCall = Feed apart.sender apart.first ∷ map (Feed apart.sender) apart.more in
    ap (gate_from empty_gate) apart.fed_whole
    ∙ from_append empty_gate apart.before (Feed apart.sender (apart.first ++ concat apart.more) ∷ apart.behind)
    ∙ ap (λ (g : GateState). gate_from g apart.behind) (sym (from_feeds gate apart.sender apart.first apart.more))
    ∙ ap (λ (g : GateState). gate_from g apart.behind) (sym (from_append empty_gate apart.before feeds))
    ∙ sym (from_append empty_gate (apart.before ++ feeds) apart.behind)
    ∙ ap (gate_from empty_gate) (sym apart.fed_cut)

pub same_gate : (past cut : List GateEvent) → NeverRanOut past → NeverRanOut cut → AreCutApart (calls_made past) (calls_made cut) → gate_after past ≡ gate_after cut
same_gate past cut enough enough' apart = left_from past enough ∙ cut_same (calls_made past) (calls_made cut) apart ∙ sym (left_from cut enough')
