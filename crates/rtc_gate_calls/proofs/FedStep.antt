-- What a piece that came in adds to a past, and to what a gate owes by it.
use Rattle.std.proofs.Common.{◌≡◌, ℕ, ◌<◌, ◌≤◌, ◌==◌, ◌∙◌, Bool, true, false, List, [], ◌∷◌, ◌++◌, map, Option, Some, None, refl, ap, sym, subst, cond, arith, append_assoc, append-nil}
use Rattle.std.specs.Prelude.{◌&&◌}
use Rattle.std.proofs.lemmas.Bool.Decides.{nat_tests}
use Rattle.rtc_gate_calls.specs.Signal.{Signal}
use Rattle.rtc_gate_calls.specs.Routing.{Letter, letter_of, is_ungrammatical, mail_for, number_named}
use Rattle.rtc_gate_calls.specs.GateState.{ConnectionState, GateState, Incoming, roster_of, connection_numbered, resumed, arriving, incoming_behind, letters_of, after_mail, fed_connections}
use Rattle.rtc_gate_calls.specs.History.{GateEvent, roster_behind, stream_from, frames_taken, due, letters_sent, came_in, name_numbered, newly_whole}
use Rattle.rtc_gate_calls.specs.declared.gate_call.GateCall.TheVariants.{Feed}
use Rattle.rtc_gate_calls.specs.declared.gate_reply.GateReply.{GateReply}
use Rattle.rtc_gate_calls.proofs.ConnectionLemmas.{numbered_map}
use Rattle.rtc_gate_calls.proofs.CutLemmas.{stream_resumed, stream_arriving}
use Rattle.rtc_gate_calls.proofs.CutLaw.{roster_fed}
use Rattle.rtc_gate_calls.proofs.FoundLemmas.{number_is, name_is, is_below, named_below, map_found}
use Rattle.rtc_gate_calls.proofs.DueSteps.{Accounts, event_of}

-- a frame goes to one whose number is there, or back
letter_below : (high sender : ℕ) (roster : List (ℕ × List ℕ)) (name : List ℕ) (signal : Signal) → sender < high → ((k : ℕ) → number_named roster signal.name ≡ Some k → k < high) → (letter_of roster sender name signal).to < high
letter_below high sender roster name signal below named = go (is_ungrammatical signal) refl (number_named roster signal.name) refl
  where
    go : (bad : Bool) → is_ungrammatical signal ≡ bad → (o : Option ℕ) → number_named roster signal.name ≡ o → (letter_of roster sender name signal).to < high
    go true is o at = rw is below
    go false is None at = rw (is, at) below
    go false is (Some k) at = rw (is, at) (named k at)

-- so one whose number is still to come gets none
no_mail : (high n : ℕ) → high ≤ n → (f : Signal → Letter) → ((s : Signal) → (f s).to < high) → (signals : List Signal) → mail_for n (map f signals) ≡ []
no_mail high n later f below [] = refl
no_mail high n later f below (s ∷ signals) =
    let less : (f s).to < high = below s in
    let other : ((f s).to == n) ≡ false = grind (arith, nat_tests) in
    ap (λ (b : Bool). cond b ((f s).frame ∷ mail_for n (map f signals)) (mail_for n (map f signals))) other ∙ no_mail high n later f below signals

pub feeds : (past : List GateEvent) (gate : GateState) (m : ℕ) (piece : List ℕ) (reply : GateReply) (sender : ConnectionState) → connection_numbered gate.connections m ≡ Some sender → came_in reply ≡ true → Accounts past gate → Accounts (event_of (Feed m piece) reply ∷ past) (record { joined = gate.joined; connections = fed_connections (Some sender) gate.connections piece })
feeds past gate m piece reply sender there came a =
    record {
      numbered = numbered_map change (λ c. refl) 0 gate.joined gate.connections a.numbered;
      roster = a.roster ∙ sym (roster_fed sender.number piece letters gate.connections);
      streams = λ n c is. let was = map_found change (λ c. refl) gate.connections n c is in
          ap (λ (x : ConnectionState). x.incoming) (sym was.2) ∙ stream n was.0 was.1 (was.0.number == sender.number) refl;
      queues = λ n c is. let was = map_found change (λ c. refl) gate.connections n c is in
          ap (λ (x : ConnectionState). frames_taken n (event ∷ past) ++ x.queue) (sym was.2)
          ∙ ap (λ (x : List (List ℕ)). x ++ (was.0.queue ++ mail_for was.0.number letters)) (append-nil (frames_taken n past))
          ∙ sym (append_assoc (frames_taken n past) was.0.queue (mail_for was.0.number letters))
          ∙ ap (λ (x : List (List ℕ)). x ++ mail_for was.0.number letters) (a.queues n was.0 was.1)
          ∙ ap (λ (k : ℕ). due n past ++ mail_for k letters) (number_is gate.connections n was.0 was.1)
          ∙ sym (owed n);
      fronts = λ n. let front = a.fronts n in (
        front.0 ++ mail_for n letters,
        ap (λ (x : List (List ℕ)). x ++ (front.0 ++ mail_for n letters)) (append-nil (frames_taken n past))
            ∙ sym (append_assoc (frames_taken n past) front.0 (mail_for n letters))
            ∙ ap (λ (x : List (List ℕ)). x ++ mail_for n letters) front.1
            ∙ sym (owed n),
      );
      absent = λ n later. let none = a.absent n later in
          let below : m < gate.joined = is_below 0 gate.joined gate.connections m sender a.numbered there in
          let other : (m == n) ≡ false = grind (arith, nat_tests) in (
            ap (λ (b : Bool). stream_from n past ++ cond (b && m == n) piece []) came ∙ ap (λ (b : Bool). stream_from n past ++ cond b piece []) other ∙ append-nil (stream_from n past) ∙ none.0,
            append-nil (frames_taken n past) ∙ none.1,
            owed n ∙ ap (λ (x : List (List ℕ)). due n past ++ x) (no_mail gate.joined n later (letter_of (roster_of gate.connections) sender.number sender.name) (bounded below) (arriving sender.incoming piece)) ∙ append-nil (due n past) ∙ none.2,
          );
    }
  where
    event : GateEvent
    event = event_of (Feed m piece) reply

    letters : List Letter
    letters = letters_of (roster_of gate.connections) sender piece

    change : ConnectionState → ConnectionState
    change = after_mail sender.number piece letters

    its_number : sender.number ≡ m
    its_number = number_is gate.connections m sender there

    bounded : m < gate.joined → (s : Signal) → (letter_of (roster_of gate.connections) sender.number sender.name s).to < gate.joined
    bounded below s = letter_below gate.joined sender.number (roster_of gate.connections) sender.name s (subst (λ (k : ℕ). k < gate.joined) (sym its_number) below) (λ k at. named_below 0 gate.joined gate.connections s.name k a.numbered at)

    sent : letters_sent past (Feed m piece) reply ≡ letters
    sent =
        ap (λ (b : Bool). cond b (map (letter_of (roster_behind past) m (name_numbered m (roster_behind past))) (newly_whole (stream_from m past) piece)) []) came
        ∙ ap (λ (r : List (ℕ × List ℕ)). map (letter_of r m (name_numbered m r)) (newly_whole (stream_from m past) piece)) a.roster
        ∙ ap (λ (name : List ℕ). map (letter_of (roster_of gate.connections) m name) (newly_whole (stream_from m past) piece)) (name_is gate.connections m sender there)
        ∙ ap (λ (k : ℕ). map (letter_of (roster_of gate.connections) k sender.name) (newly_whole (stream_from m past) piece)) (sym its_number)
        ∙ ap (map (letter_of (roster_of gate.connections) sender.number sender.name)) (sym (stream_arriving (stream_from m past) piece) ∙ ap (λ (i : Incoming). arriving i piece) (sym (a.streams m sender there)))

    owed : (n : ℕ) → due n (event ∷ past) ≡ due n past ++ mail_for n letters
    owed n = ap (λ (ls : List Letter). due n past ++ mail_for n ls) sent

    stream : (n : ℕ) (d : ConnectionState) → connection_numbered gate.connections n ≡ Some d → (its : Bool) → (d.number == sender.number) ≡ its → cond (d.number == sender.number) (resumed d.incoming piece) d.incoming ≡ incoming_behind 0 (stream_from n (event ∷ past))
    stream n d is true same =
        let number : d.number ≡ n = number_is gate.connections n d is in
        let mine : (m == n) ≡ true = let k : sender.number ≡ m = its_number in grind (arith, nat_tests) in
        ap (λ (b : Bool). cond b (resumed d.incoming piece) d.incoming) same
        ∙ ap (λ (i : Incoming). resumed i piece) (a.streams n d is)
        ∙ stream_resumed (stream_from n past) piece
        ∙ sym (ap (λ (b : Bool). incoming_behind 0 (stream_from n past ++ cond (b && m == n) piece [])) came ∙ ap (λ (b : Bool). incoming_behind 0 (stream_from n past ++ cond b piece [])) mine)
    stream n d is false apart =
        let number : d.number ≡ n = number_is gate.connections n d is in
        let other : (m == n) ≡ false = let k : sender.number ≡ m = its_number in grind (arith, nat_tests) in
        ap (λ (b : Bool). cond b (resumed d.incoming piece) d.incoming) apart
        ∙ a.streams n d is
        ∙ sym (ap (λ (b : Bool). incoming_behind 0 (stream_from n past ++ cond (b && m == n) piece [])) came ∙ ap (λ (b : Bool). incoming_behind 0 (stream_from n past ++ cond b piece [])) other ∙ ap (incoming_behind 0) (append-nil (stream_from n past)))
