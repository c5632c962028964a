-- What each call adds to a past, and to what a gate owes by it.
use Rattle.std.proofs.Common.{◌≡◌, ℕ, ◌+◌, ◌<◌, ◌≤◌, ◌==◌, ◌∙◌, Bool, true, false, List, [], ◌∷◌, ◌++◌, map, drop, Some, refl, ap, sym, cond, arith, append_assoc, append-nil}
use Rattle.std.specs.Prelude.{slice_get, filter, not}
use Rattle.std.proofs.lemmas.Bool.Decides.{nat_tests}
use Rattle.std.proofs.lemmas.List.{map-append}
use Rattle.rtc_gate_calls.specs.SignalStream as streams
use Rattle.rtc_gate_calls.specs.Routing.{Letter, mail_for}
use Rattle.rtc_gate_calls.specs.GateState.{ConnectionState, GateState, started, roster_entry, roster_of, connection_numbered, incoming_behind, without_first, fresh_connection}
use Rattle.rtc_gate_calls.specs.Gate.{AreNumbered}
use Rattle.rtc_gate_calls.specs.History.{GateEvent, roster_behind, stream_from, frames_taken, due, letters_sent, bytes_from, frames_from, frame_in_reply}
use Rattle.rtc_gate_calls.specs.declared.gate_call.GateCall.{GateCall}
use Rattle.rtc_gate_calls.specs.declared.gate_call.GateCall.TheVariants.{Join, Leave, Take}
use Rattle.rtc_gate_calls.specs.declared.gate_reply.GateReply.{GateReply}
use Rattle.rtc_gate_calls.specs.declared.gate_reply.GateReply.TheVariants.{Joined, Left, Took}
use Rattle.rtc_gate_calls.proofs.ConnectionLemmas.{numbered_map, map_alike, map_twice}
use Rattle.rtc_gate_calls.proofs.GateLemmas.{numbered_filter}
use Rattle.rtc_gate_calls.proofs.CallLemmas.{numbered_push}
use Rattle.rtc_gate_calls.proofs.FoundLemmas.{number_is, is_below, push_found, filter_found, map_found}

-- What a past says of a gate, and of numbers that are still to come.
pub record Accounts (past : List GateEvent) (gate : GateState) : Type 0 where
  pub numbered : AreNumbered 0 gate.connections gate.joined
  pub roster : roster_behind past ≡ roster_of gate.connections
  pub streams : (n : ℕ) (c : ConnectionState) → connection_numbered gate.connections n ≡ Some c → c.incoming ≡ incoming_behind 0 (stream_from n past)
  pub queues : (n : ℕ) (c : ConnectionState) → connection_numbered gate.connections n ≡ Some c → frames_taken n past ++ c.queue ≡ due n past
  pub fronts : (n : ℕ) → (rest : List (List ℕ)) × (frames_taken n past ++ rest ≡ due n past)
  pub absent : (n : ℕ) → gate.joined ≤ n → (stream_from n past ≡ []) × (frames_taken n past ≡ []) × (due n past ≡ [])

abbrev pub event_of : GateCall → GateReply → GateEvent
event_of call reply = record { call = call; reply = reply }

-- a call that adds nothing
pub quiet : (past : List GateEvent) (gate : GateState) (event : GateEvent) → roster_behind (event ∷ past) ≡ roster_behind past → ((n : ℕ) → bytes_from n event.call event.reply ≡ []) → ((n : ℕ) → frames_from n event.call event.reply ≡ []) → letters_sent past event.call event.reply ≡ [] → Accounts past gate → Accounts (event ∷ past) gate
quiet past gate event roster bytes frames letters a =
    let stream : (n : ℕ) → stream_from n (event ∷ past) ≡ stream_from n past = λ n. ap (λ (x : List ℕ). stream_from n past ++ x) (bytes n) ∙ append-nil (stream_from n past) in
    let took : (n : ℕ) → frames_taken n (event ∷ past) ≡ frames_taken n past = λ n. ap (λ (x : List (List ℕ)). frames_taken n past ++ x) (frames n) ∙ append-nil (frames_taken n past) in
    let owed : (n : ℕ) → due n (event ∷ past) ≡ due n past = λ n. ap (λ (ls : List Letter). due n past ++ mail_for n ls) letters ∙ append-nil (due n past) in
    record {
      numbered = a.numbered;
      roster = roster ∙ a.roster;
      streams = λ n c is. a.streams n c is ∙ ap (incoming_behind 0) (sym (stream n));
      queues = λ n c is. ap (λ (x : List (List ℕ)). x ++ c.queue) (took n) ∙ a.queues n c is ∙ sym (owed n);
      fronts = λ n. let front = a.fronts n in (front.0, ap (λ (x : List (List ℕ)). x ++ front.0) (took n) ∙ front.1 ∙ sym (owed n));
      absent = λ n later. let none = a.absent n later in (stream n ∙ none.0, took n ∙ none.1, owed n ∙ none.2);
    }

roster_push : (cs : List ConnectionState) (d : ConnectionState) → roster_of (cs ++ d ∷ []) ≡ roster_of cs ++ (d.number, d.name) ∷ []
roster_push cs d = map-append roster_entry cs (d ∷ [])

nothing_came : started ≡ incoming_behind 0 []
unfolding streams.split_up_to streams.signal_front
nothing_came = refl

-- one joined
pub joins : (past : List GateEvent) (gate : GateState) (name : List ℕ) → Accounts past gate → Accounts (event_of (Join name) (Joined gate.joined) ∷ past) (record { joined = gate.joined + 1; connections = gate.connections ++ fresh_connection gate.joined name ∷ [] })
joins past gate name a =
    let new : ConnectionState = fresh_connection gate.joined name in
    let event : GateEvent = event_of (Join name) (Joined gate.joined) in
    let none = a.absent gate.joined (omega arith) in
    let stream : (n : ℕ) → stream_from n (event ∷ past) ≡ stream_from n past = λ n. append-nil (stream_from n past) in
    let took : (n : ℕ) → frames_taken n (event ∷ past) ≡ frames_taken n past = λ n. append-nil (frames_taken n past) in
    let owed : (n : ℕ) → due n (event ∷ past) ≡ due n past = λ n. append-nil (due n past) in
    record {
      numbered = numbered_push 0 gate.joined gate.connections new a.numbered refl;
      roster = ap (λ (r : List (ℕ × List ℕ)). r ++ (gate.joined, name) ∷ []) a.roster ∙ sym (roster_push gate.connections new);
      streams = λ n c is. push_found (c.incoming ≡ incoming_behind 0 (stream_from n (event ∷ past))) gate.connections new n c is
          (λ was. a.streams n c was ∙ ap (incoming_behind 0) (sym (stream n)))
          (λ one its. ap (λ (x : ConnectionState). x.incoming) (sym one) ∙ nothing_came ∙ ap (incoming_behind 0) (sym none.0 ∙ ap (λ (k : ℕ). stream_from k past) its ∙ sym (stream n)));
      queues = λ n c is. push_found (frames_taken n (event ∷ past) ++ c.queue ≡ due n (event ∷ past)) gate.connections new n c is
          (λ was. ap (λ (x : List (List ℕ)). x ++ c.queue) (took n) ∙ a.queues n c was ∙ sym (owed n))
          (λ one its. ap (λ (x : ConnectionState). frames_taken n (event ∷ past) ++ x.queue) (sym one)
          ∙ append-nil (frames_taken n (event ∷ past)) ∙ took n ∙ ap (λ (k : ℕ). frames_taken k past) (sym its) ∙ none.1
          ∙ sym (none.2) ∙ ap (λ (k : ℕ). due k past) its ∙ sym (owed n));
      fronts = λ n. let front = a.fronts n in (front.0, ap (λ (x : List (List ℕ)). x ++ front.0) (took n) ∙ front.1 ∙ sym (owed n));
      absent = λ n later. let before = a.absent n (omega (arith, later)) in (stream n ∙ before.0, took n ∙ before.1, owed n ∙ before.2);
    }

-- one left
roster_filter : (m : ℕ) (cs : List ConnectionState) → filter (λ (entry : ℕ × List ℕ). not (entry.0 == m)) (roster_of cs) ≡ roster_of (filter (λ c. not (c.number == m)) cs)
roster_filter m [] = refl
roster_filter m (c ∷ cs) = go (c.number == m) (roster_filter m cs)
  where
    go : (its : Bool) → filter (λ (entry : ℕ × List ℕ). not (entry.0 == m)) (roster_of cs) ≡ roster_of (filter (λ c. not (c.number == m)) cs) → cond (not its) ((c.number, c.name) ∷ filter (λ (entry : ℕ × List ℕ). not (entry.0 == m)) (roster_of cs)) (filter (λ (entry : ℕ × List ℕ). not (entry.0 == m)) (roster_of cs)) ≡ roster_of (cond (not its) (c ∷ filter (λ c. not (c.number == m)) cs) (filter (λ c. not (c.number == m)) cs))
    go true rest = rest
    go false rest = ap (λ (r : List (ℕ × List ℕ)). (c.number, c.name) ∷ r) rest

pub leaves : (past : List GateEvent) (gate : GateState) (m : ℕ) → Accounts past gate → Accounts (event_of (Leave m) Left ∷ past) (record { joined = gate.joined; connections = filter (λ c. not (c.number == m)) gate.connections })
leaves past gate m a =
    let event : GateEvent = event_of (Leave m) Left in
    let stream : (n : ℕ) → stream_from n (event ∷ past) ≡ stream_from n past = λ n. append-nil (stream_from n past) in
    let took : (n : ℕ) → frames_taken n (event ∷ past) ≡ frames_taken n past = λ n. append-nil (frames_taken n past) in
    let owed : (n : ℕ) → due n (event ∷ past) ≡ due n past = λ n. append-nil (due n past) in
    record {
      numbered = numbered_filter (λ c. not (c.number == m)) 0 gate.joined gate.connections a.numbered;
      roster = ap (λ (r : List (ℕ × List ℕ)). filter (λ (entry : ℕ × List ℕ). not (entry.0 == m)) r) a.roster ∙ roster_filter m gate.connections;
      streams = λ n c is. a.streams n c (filter_found gate.connections m n c is) ∙ ap (incoming_behind 0) (sym (stream n));
      queues = λ n c is. ap (λ (x : List (List ℕ)). x ++ c.queue) (took n) ∙ a.queues n c (filter_found gate.connections m n c is) ∙ sym (owed n);
      fronts = λ n. let front = a.fronts n in (front.0, ap (λ (x : List (List ℕ)). x ++ front.0) (took n) ∙ front.1 ∙ sym (owed n));
      absent = λ n later. let none = a.absent n later in (stream n ∙ none.0, took n ∙ none.1, owed n ∙ none.2);
    }

-- one took the frame that waited longest, if any
first_and_rest : (queue : List (List ℕ)) → frame_in_reply (slice_get queue 0) ++ drop 1 queue ≡ queue
first_and_rest [] = refl
first_and_rest (frame ∷ queue) = refl

pub takes : (past : List GateEvent) (gate : GateState) (m : ℕ) (taker : ConnectionState) → connection_numbered gate.connections m ≡ Some taker → Accounts past gate → Accounts (event_of (Take m) (Took (slice_get taker.queue 0)) ∷ past) (record { joined = gate.joined; connections = map (without_first m) gate.connections })
takes past gate m taker there a =
    let event : GateEvent = event_of (Take m) (Took (slice_get taker.queue 0)) in
    let stream : (n : ℕ) → stream_from n (event ∷ past) ≡ stream_from n past = λ n. append-nil (stream_from n past) in
    let owed : (n : ℕ) → due n (event ∷ past) ≡ due n past = λ n. append-nil (due n past) in
    record {
      numbered = numbered_map (without_first m) (λ c. refl) 0 gate.joined gate.connections a.numbered;
      roster = a.roster ∙ sym (map_twice roster_entry (without_first m) gate.connections ∙ map_alike (λ c. roster_entry (without_first m c)) roster_entry (λ c. refl) gate.connections);
      streams = λ n c is. let was = map_found (without_first m) (λ c. refl) gate.connections n c is in
          ap (λ (x : ConnectionState). x.incoming) (sym was.2) ∙ a.streams n was.0 was.1 ∙ ap (incoming_behind 0) (sym (stream n));
      queues = λ n c is. let was = map_found (without_first m) (λ c. refl) gate.connections n c is in
          ap (λ (x : ConnectionState). frames_taken n (event ∷ past) ++ x.queue) (sym was.2)
          ∙ whole n was.0 was.1 (m == was.0.number) refl ∙ a.queues n was.0 was.1 ∙ sym (owed n);
      fronts = λ n. front n (m == n) refl;
      absent = λ n later. let none = a.absent n later in
          let below : m < gate.joined = is_below 0 gate.joined gate.connections m taker a.numbered there in
          let other : (m == n) ≡ false = grind (arith, nat_tests) in
          (stream n ∙ none.0, other_took n other ∙ none.1, owed n ∙ none.2);
    }
  where
    other_took : (n : ℕ) → (m == n) ≡ false → frames_taken n (event_of (Take m) (Took (slice_get taker.queue 0)) ∷ past) ≡ frames_taken n past
    other_took n other = ap (λ (b : Bool). frames_taken n past ++ cond b (frame_in_reply (slice_get taker.queue 0)) []) other ∙ append-nil (frames_taken n past)

    its_took : (n : ℕ) → (m == n) ≡ true → frames_taken n (event_of (Take m) (Took (slice_get taker.queue 0)) ∷ past) ≡ frames_taken n past ++ frame_in_reply (slice_get taker.queue 0)
    its_took n same = ap (λ (b : Bool). frames_taken n past ++ cond b (frame_in_reply (slice_get taker.queue 0)) []) same

    whole : (n : ℕ) (d : ConnectionState) → connection_numbered gate.connections n ≡ Some d → (its : Bool) → (m == d.number) ≡ its → frames_taken n (event_of (Take m) (Took (slice_get taker.queue 0)) ∷ past) ++ cond (m == d.number) (drop 1 d.queue) d.queue ≡ frames_taken n past ++ d.queue
    whole n d is true same =
        let number : d.number ≡ n = number_is gate.connections n d is in
        let mine : (m == n) ≡ true = ap (λ (k : ℕ). m == k) (sym number) ∙ same in
        let equal : m ≡ n = grind (arith, nat_tests) in
        let one : d ≡ taker = let e : Some d ≡ Some taker = sym is ∙ ap (connection_numbered gate.connections) (sym equal) ∙ there in cc in
        ap (λ (b : Bool). frames_taken n (event_of (Take m) (Took (slice_get taker.queue 0)) ∷ past) ++ cond b (drop 1 d.queue) d.queue) same
        ∙ ap (λ (x : List (List ℕ)). x ++ drop 1 d.queue) (its_took n mine)
        ∙ append_assoc (frames_taken n past) (frame_in_reply (slice_get taker.queue 0)) (drop 1 d.queue)
        ∙ ap (λ (x : ConnectionState). frames_taken n past ++ (frame_in_reply (slice_get x.queue 0) ++ drop 1 d.queue)) (sym one)
        ∙ ap (λ (x : List (List ℕ)). frames_taken n past ++ x) (first_and_rest d.queue)
    whole n d is false apart =
        let number : d.number ≡ n = number_is gate.connections n d is in
        let other : (m == n) ≡ false = ap (λ (k : ℕ). m == k) (sym number) ∙ apart in
        ap (λ (b : Bool). frames_taken n (event_of (Take m) (Took (slice_get taker.queue 0)) ∷ past) ++ cond b (drop 1 d.queue) d.queue) apart
        ∙ ap (λ (x : List (List ℕ)). x ++ d.queue) (other_took n other)

    front : (n : ℕ) (its : Bool) → (m == n) ≡ its → (rest : List (List ℕ)) × (frames_taken n (event_of (Take m) (Took (slice_get taker.queue 0)) ∷ past) ++ rest ≡ due n (event_of (Take m) (Took (slice_get taker.queue 0)) ∷ past))
    front n true same =
        let equal : m ≡ n = grind (arith, nat_tests) in
        let all : frames_taken n past ++ taker.queue ≡ due n past = a.queues n taker (ap (connection_numbered gate.connections) (sym equal) ∙ there) in (
          drop 1 taker.queue,
          ap (λ (x : List (List ℕ)). x ++ drop 1 taker.queue) (its_took n same)
              ∙ append_assoc (frames_taken n past) (frame_in_reply (slice_get taker.queue 0)) (drop 1 taker.queue)
              ∙ ap (λ (x : List (List ℕ)). frames_taken n past ++ x) (first_and_rest taker.queue)
              ∙ all
              ∙ sym (append-nil (due n past)),
        )
    front n false apart =
        let before = a.fronts n in
        (before.0, ap (λ (x : List (List ℕ)). x ++ before.0) (other_took n apart) ∙ before.1 ∙ sym (append-nil (due n past)))
