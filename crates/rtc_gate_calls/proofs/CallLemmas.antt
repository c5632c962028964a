-- What joins and feeds keep, and what they answer.
use Rattle.std.proofs.Common.{◌≡◌, ℕ, ◌+◌, ◌<◌, ◌≤◌, ◌^◌, ◌==◌, ◌∙◌, Bool, true, false, List, [], ◌∷◌, ◌++◌, length, map, Option, Some, None, refl, ap, sym, subst, cond, arith, append-nil}
use Rattle.std.specs.Prelude.{slice_get, is_some, nat_le, Result, Ok, Err}
use Rattle.std.specs.Str.{bytes_eq}
use Rattle.std.specs.Ordering.{nat_cmp, is_eq}
use Rattle.std.specs.Cmp.Lexicographic.{slice_cmp}
use Rattle.std.specs.BTreeMap.{BTreeMap, get}
use Rattle.std.proofs.lemmas.Map.Text.{is_eq-slice_cmp}
use Rattle.std.proofs.lemmas.Bool.Decides.{nat_tests}
use Rattle.std.proofs.lemmas.Slice.Eq.{bytes_eq-Decides}
use Rattle.rtc_gate_calls.specs.Routing.{Letter, number_named, letter_of, mail_for, admission, join_answer}
use Rattle.rtc_gate_calls.specs.GateState.{ConnectionState, roster_entry, roster_of, fresh_connection, Incoming, fed_connections, after_mail, letters_of, IsAnswered, feed_answer, fed_answer, resumed, incoming_behind, after_admission, after_join}
use Rattle.rtc_gate_calls.specs.SignalStream.{signals_in}
use Rattle.rtc_wire_text.specs.Tokens.{is_short_token}
use Rattle.rtc_gate_calls.specs.declared.gate_error.GateError.{GateError}
use Rattle.rtc_gate_calls.specs.declared.gate_error.GateError.TheVariants.{BadName, NameTaken, Full, NoSuch, BadFrame, Alloc}
use Rattle.rtc_gate_calls.specs.Gate.{AreNumbered, HaveOwnNames, IsKept}
use Rattle.rtc_gate_calls.proofs.ConnectionLemmas.{numbered_map, map_alike, map_twice, map_same, changes_alike}
use Rattle.rtc_gate_calls.proofs.FeedLemmas.{count_map}
use Rattle.rtc_gate_calls.proofs.GateLemmas.{kept_roster}

-- and when one joins
named_with : (cs : List ConnectionState) (c : ConnectionState) (q : List ℕ) → number_named (roster_of cs) c.name ≡ None → cond (bytes_eq c.name q) (Some c.number) (number_named (roster_of cs) q) ≡ number_named (roster_of (cs ++ c ∷ [])) q
named_with [] c q none = refl
named_with (d ∷ cs) c q none = go (bytes_eq d.name q) refl (bytes_eq d.name c.name) refl (named_with cs c q)
  where
    go : (its : Bool) → bytes_eq d.name q ≡ its → (same : Bool) → bytes_eq d.name c.name ≡ same → (number_named (roster_of cs) c.name ≡ None → cond (bytes_eq c.name q) (Some c.number) (number_named (roster_of cs) q) ≡ number_named (roster_of (cs ++ c ∷ [])) q) → cond (bytes_eq c.name q) (Some c.number) (number_named (roster_of (d ∷ cs)) q) ≡ number_named (roster_of (d ∷ (cs ++ c ∷ []))) q
    go its is true same rest = absurd (let e : Some d.number ≡ None = subst (λ (b : Bool). cond b (Some d.number) (number_named (roster_of cs) c.name) ≡ None) same none in cc)
    go true is false differ rest =
        ap (λ (b : Bool). cond (bytes_eq c.name q) (Some c.number) (cond b (Some d.number) (number_named (roster_of cs) q))) is ∙ other (bytes_eq c.name q) refl ∙ sym (ap (λ (b : Bool). cond b (Some d.number) (number_named (roster_of (cs ++ c ∷ [])) q)) is)
      where
        other : (test : Bool) → bytes_eq c.name q ≡ test → cond test (Some c.number) (Some d.number) ≡ Some d.number
        other true is' =
            let e : d.name ≡ c.name = (bytes_eq-Decides d.name q).0 is ∙ sym ((bytes_eq-Decides c.name q).0 is') in
            let t : bytes_eq d.name c.name ≡ true = (bytes_eq-Decides d.name c.name).1 e in
            absurd (cc)
        other false is' = refl
    go false is false differ rest =
        let none' : number_named (roster_of cs) c.name ≡ None = subst (λ (b : Bool). cond b (Some d.number) (number_named (roster_of cs) c.name) ≡ None) differ none in
        ap (λ (b : Bool). cond (bytes_eq c.name q) (Some c.number) (cond b (Some d.number) (number_named (roster_of cs) q))) is ∙ rest none' ∙ sym (ap (λ (b : Bool). cond b (Some d.number) (number_named (roster_of (cs ++ c ∷ [])) q)) is)

apart_push : (cs : List ConnectionState) (c : ConnectionState) → HaveOwnNames (roster_of cs) → number_named (roster_of cs) c.name ≡ None → HaveOwnNames (roster_of (cs ++ c ∷ []))
apart_push [] c apart none = (refl, tt)
apart_push (d ∷ cs) c apart none = go (bytes_eq d.name c.name) refl (apart_push cs c apart.1)
  where
    go : (same : Bool) → bytes_eq d.name c.name ≡ same → (number_named (roster_of cs) c.name ≡ None → HaveOwnNames (roster_of (cs ++ c ∷ []))) → HaveOwnNames (roster_of (d ∷ (cs ++ c ∷ [])))
    go true same rest = absurd (let e : Some d.number ≡ None = subst (λ (b : Bool). cond b (Some d.number) (number_named (roster_of cs) c.name) ≡ None) same none in cc)
    go false differ rest =
        let none' : number_named (roster_of cs) c.name ≡ None = subst (λ (b : Bool). cond b (Some d.number) (number_named (roster_of cs) c.name) ≡ None) differ none in
        let turned : bytes_eq c.name d.name ≡ false = turn (bytes_eq c.name d.name) refl differ in
        (sym (named_with cs c d.name none') ∙ ap (λ (b : Bool). cond b (Some c.number) (number_named (roster_of cs) d.name)) turned ∙ apart.0, rest none')
      where
        turn : (b : Bool) → bytes_eq c.name d.name ≡ b → bytes_eq d.name c.name ≡ false → b ≡ false
        turn true is differ = absurd (let t : bytes_eq d.name c.name ≡ true = (bytes_eq-Decides d.name c.name).1 (sym ((bytes_eq-Decides c.name d.name).0 is)) in cc)
        turn false is differ = refl

pub numbered_push : (least next : ℕ) (cs : List ConnectionState) (c : ConnectionState) → AreNumbered least cs next → c.number ≡ next → AreNumbered least (cs ++ c ∷ []) (next + 1)
numbered_push least next [] c all is = (omega (arith, all), omega arith)
numbered_push least next (d ∷ cs) c all is = (all.0, numbered_push (d.number + 1) next cs c all.1 is)

pub kept_join : (joined : ℕ) (names names' : BTreeMap (List ℕ) ℕ) (cs : List ConnectionState) (name : List ℕ) → IsKept joined names cs → joined < 2 ^ 32 → get (slice_cmp nat_cmp) names name ≡ None → ((q : List ℕ) → get (slice_cmp nat_cmp) names' q ≡ cond (is_eq (slice_cmp nat_cmp name q)) (Some joined) (get (slice_cmp nat_cmp) names q)) → IsKept (joined + 1) names' (cs ++ fresh_connection joined name ∷ [])
kept_join joined names names' cs name kept few free updates =
    let none : number_named (roster_of cs) name ≡ None = sym (kept.index name) ∙ free in
    record {
      numbered = numbered_push 0 joined cs (fresh_connection joined name) kept.numbered refl;
      few = omega arith;
      apart = apart_push cs (fresh_connection joined name) kept.apart none;
      index = λ q. updates q
          ∙ ap (λ (b : Bool). cond b (Some joined) (get (slice_cmp nat_cmp) names q)) (is_eq-slice_cmp name q)
          ∙ ap (λ (o : Option ℕ). cond (bytes_eq name q) (Some joined) o) (kept.index q)
          ∙ named_with cs (fresh_connection joined name) q none;
    }

pub kept_fed : (joined : ℕ) (names : BTreeMap (List ℕ) ℕ) (o : Option ConnectionState) (cs : List ConnectionState) (piece : List ℕ) → IsKept joined names cs → IsKept joined names (fed_connections o cs piece)
kept_fed joined names None cs piece kept = kept
kept_fed joined names (Some c) cs piece kept =
    let f : ConnectionState → ConnectionState = after_mail c.number piece (letters_of (roster_of cs) c piece) in
    kept_roster joined names cs (map f cs) (map_twice roster_entry f cs ∙ map_alike (λ c. roster_entry (f c)) roster_entry (λ c. refl) cs) (numbered_map f (λ c. refl) 0 joined cs kept.numbered) kept

pub length_fed : (o : Option ConnectionState) (cs : List ConnectionState) (piece : List ℕ) → length (fed_connections o cs piece) ≡ length cs
length_fed None cs piece = refl
length_fed (Some c) cs piece = count_map (after_mail c.number piece (letters_of (roster_of cs) c piece)) cs

-- a call leaves what was, or what is expected
pub answered_either : {T S : Type 0} (result expected : Result T GateError) (old new after : S) (P : S → Type 0) → P old → P after → IsAnswered result expected old new after → P new
answered_either (Ok answer) expected old new after P before behind is = subst P (sym is.1) behind
answered_either (Err BadName) expected old new after P before behind is = subst P (sym is.1) behind
answered_either (Err NameTaken) expected old new after P before behind is = subst P (sym is.1) behind
answered_either (Err Full) expected old new after P before behind is = subst P (sym is.1) behind
answered_either (Err NoSuch) expected old new after P before behind is = subst P (sym is.1) behind
answered_either (Err (BadFrame at)) expected old new after P before behind is = subst P (sym is.1) behind
answered_either (Err Alloc) expected old new after P before behind is = subst P (sym is) before

-- a stream that is stuck
pub stuck_answer : (c : ConnectionState) (piece : List ℕ) → c.incoming.stuck ≡ true → feed_answer (Some c) piece ≡ Err (BadFrame c.incoming.done)
stuck_answer c piece stuck =
    ap (λ (b : Bool). fed_answer (cond b c.incoming (incoming_behind c.incoming.done (c.incoming.kept ++ piece))) (cond b [] (signals_in (c.incoming.kept ++ piece)))) stuck
    ∙ ap (λ (b : Bool). let r : Result ℕ GateError = cond b (Err (BadFrame c.incoming.done)) (Ok 0) in r) stuck

pub stuck_fed : (cs : List ConnectionState) (place number high : ℕ) (c : ConnectionState) (piece : List ℕ) → AreNumbered 0 cs high → slice_get cs place ≡ Some c → c.incoming.stuck ≡ true → fed_connections (Some c) cs piece ≡ cs
stuck_fed cs place number high c piece numbered at stuck =
    let letters : List Letter = letters_of (roster_of cs) c piece in
    let nothing : letters ≡ [] = ap (λ (b : Bool). map (letter_of (roster_of cs) c.number c.name) (cond b [] (signals_in (c.incoming.kept ++ piece)))) stuck in
    let same : resumed c.incoming piece ≡ c.incoming = ap (λ (b : Bool). cond b c.incoming (incoming_behind c.incoming.done (c.incoming.kept ++ piece))) stuck in
    let mine : (c.number == c.number) ≡ true = grind (arith, nat_tests) in
    let quiet : (d : ConnectionState) → d.queue ++ mail_for d.number letters ≡ d.queue = λ d. ap (λ (ls : List Letter). d.queue ++ mail_for d.number ls) nothing ∙ append-nil d.queue in
    changes_alike (after_mail c.number piece letters) (λ d. d) c.number c 0 high cs place numbered at refl
    (ap (λ (b : Bool). let d : ConnectionState = record { number = c.number; name = c.name; incoming = cond b (resumed c.incoming piece) c.incoming; queue = c.queue ++ mail_for c.number letters } in d) mine
    ∙ ap (λ (i : Incoming). let d : ConnectionState = record { number = c.number; name = c.name; incoming = i; queue = c.queue ++ mail_for c.number letters } in d) same
    ∙ ap (λ (q : List (List ℕ)). let d : ConnectionState = record { number = c.number; name = c.name; incoming = c.incoming; queue = q } in d) (quiet c))
    (λ d differ. let other : (d.number == c.number) ≡ false = grind (arith, nat_tests) in
    ap (λ (b : Bool). let e : ConnectionState = record { number = d.number; name = d.name; incoming = cond b (resumed d.incoming piece) d.incoming; queue = d.queue ++ mail_for d.number letters } in e) other
    ∙ ap (λ (q : List (List ℕ)). let e : ConnectionState = record { number = d.number; name = d.name; incoming = d.incoming; queue = q } in e) (quiet d))
    ∙ map_same (λ d. d) (λ d. refl) cs

-- what a join answers
pub read_token : (text name : List ℕ) → Some name ≡ cond (is_short_token text) (Some text) None → (is_short_token text ≡ true) × (name ≡ text)
read_token text name read = go (is_short_token text) refl
  where
    go : (b : Bool) → is_short_token text ≡ b → (is_short_token text ≡ true) × (name ≡ text)
    go true is = (is, let e : Some name ≡ Some text = read ∙ ap (λ (b : Bool). cond b (Some text) None) is in cc)
    go false is = absurd (let e : Some name ≡ None = read ∙ ap (λ (b : Bool). cond b (Some text) None) is in cc)

pub none_from : {A : Type 0} (o : Option A) → is_some o ≡ false → o ≡ None
none_from None is = refl
none_from (Some a) is = absurd (cc)

admitted : (joined : ℕ) (cs : List ConnectionState) (text : List ℕ) → is_short_token text ≡ true → number_named (roster_of cs) text ≡ None → join_answer joined (roster_of cs) text ≡ cond (nat_le 1024 (length (roster_of cs))) (Err Full) (Ok joined)
admitted joined cs text token free =
    ap (λ (b : Bool). cond b (admission joined (roster_of cs) (number_named (roster_of cs) text)) (Err BadName)) token
    ∙ ap (admission joined (roster_of cs)) free

pub join_full : (joined : ℕ) (cs : List ConnectionState) (text : List ℕ) → is_short_token text ≡ true → number_named (roster_of cs) text ≡ None → 1024 ≤ length cs → join_answer joined (roster_of cs) text ≡ Err Full
join_full joined cs text token free full =
    let count : length (roster_of cs) ≡ length cs = count_map roster_entry cs in
    let test : nat_le 1024 (length (roster_of cs)) ≡ true = grind (arith, nat_tests) in
    admitted joined cs text token free ∙ ap (λ (b : Bool). let r : Result ℕ GateError = cond b (Err Full) (Ok joined) in r) test

pub join_next : (joined : ℕ) (cs : List ConnectionState) (text : List ℕ) → is_short_token text ≡ true → number_named (roster_of cs) text ≡ None → length cs < 1024 → join_answer joined (roster_of cs) text ≡ Ok joined
join_next joined cs text token free few =
    let count : length (roster_of cs) ≡ length cs = count_map roster_entry cs in
    let test : nat_le 1024 (length (roster_of cs)) ≡ false = grind (arith, nat_tests) in
    admitted joined cs text token free ∙ ap (λ (b : Bool). let r : Result ℕ GateError = cond b (Err Full) (Ok joined) in r) test

pub join_left : (joined : ℕ) (cs : List ConnectionState) (text : List ℕ) → join_answer joined (roster_of cs) text ≡ Ok joined → after_join (record { joined = joined; connections = cs }) text ≡ record { joined = joined + 1; connections = cs ++ fresh_connection joined text ∷ [] }
join_left joined cs text is = ap (λ (r : Result ℕ GateError). after_admission r (record { joined = joined; connections = cs }) text) is

pub join_refused : (joined : ℕ) (cs : List ConnectionState) (text : List ℕ) (error : GateError) → join_answer joined (roster_of cs) text ≡ Err error → after_join (record { joined = joined; connections = cs }) text ≡ record { joined = joined; connections = cs }
join_refused joined cs text error is = ap (λ (r : Result ℕ GateError). after_admission r (record { joined = joined; connections = cs }) text) is
