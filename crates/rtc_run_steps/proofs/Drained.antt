-- A drain, turn by turn: what is left from a turn on makes, behind what was shown, the whole.
use Rattle.std.proofs.Common.{◌≡◌, ◌≤◌, ◌+◌, ◌∙◌, if◌then◌else◌, ℕ, Bool, true, false, List, [], ◌∷◌, ◌++◌, length, Option, Some, Ok, refl, sym, ap, subst, arith, append-nil, append_assoc, length-append}
use Rattle.rtc_parts.specs.declared.reason.Reason.{Reason}
use Rattle.rtc_peer_core.specs.declared.rtc_error.RtcError.{RtcError}
use Rattle.rtc_peer_core.specs.Meanings.{Meanings}
use Rattle.rtc_peer_transport.specs.declared.polled_peer.PolledPeer.{PolledPeer}
use Rattle.rtc_peer_transport.specs.declared.output.Output.{Output}
use Rattle.rtc_peer_transport.specs.declared.output.Output.TheVariants as polled
use Rattle.rtc_peer_polling.specs.Walk.{PollsPeer}
use Rattle.rtc_run_history.specs.declared.side.Side.{Side}
use Rattle.rtc_run_history.specs.declared.poll_end.PollEnd.{PollEnd}
use Rattle.rtc_run_history.specs.declared.poll_end.PollEnd.TheVariants.{Ended, Refused as EndRefused, NoRoom}
use Rattle.rtc_run_history.specs.declared.outcome.Outcome.{Outcome}
use Rattle.rtc_run_history.specs.declared.outcome.Outcome.TheVariants.{Polled}
use Rattle.rtc_run_history.specs.declared.sent_packet.SentPacket.{SentPacket}
use Rattle.rtc_run_history.specs.declared.table.Table.{Table}
use Rattle.rtc_run_history.specs.declared.shown.Shown.{Shown}
use Rattle.rtc_run_history.specs.declared.shown.Shown.TheVariants.{Timeout, Packet, Event}
use Rattle.rtc_run_history.specs.Performs.{PollsShown, PollsOnce, DrainsOn, DrainsPeer, StepPollsPeer}
use Rattle.rtc_run_steps.specs.ShownTable.{shown_table}
use Rattle.rtc_run_steps.specs.Turns.{TakesTurn, ShowsOutput, end_of, is_timeout}
use Rattle.rtc_run_steps.specs.declared.turn.Turn.{Turn}
use Rattle.rtc_run_steps.specs.declared.turn.Turn.TheVariants.{More, Over, Refused}

module _ {I D S M E X T W N : Type 0} (m : Meanings I D S M E X T W N) (at : Side) where
  -- what is left from a peer on makes, behind what was shown, a whole from the first one on
  pub record DrainsLeft (first : PolledPeer I D S M N) (packets : List SentPacket) (outputs : List (Shown E)) (p : PolledPeer I D S M N) (kept : List SentPacket) : Type 0 where
    pub makes : (rest : List (Shown E)) (end : PollEnd) (q : PolledPeer I D S M N) (kept' : List SentPacket) → DrainsOn m at p kept rest end q kept'
        → DrainsOn m at first packets (outputs ++ rest) end q kept'

  -- nothing was shown yet
  pub left_first : (p : PolledPeer I D S M N) (packets : List SentPacket) (outputs : List (Shown E)) → outputs ≡ [] → DrainsLeft p packets outputs p packets
  left_first p packets outputs none = rw none (record { makes = λ rest end q kept' h. h })

  -- an output in front of a drain
  in_front : (p : PolledPeer I D S M N) (packets : List SentPacket) (shown : Shown E) (between : PolledPeer I D S M N) (kept : List SentPacket) (rest : List (Shown E)) (end : PollEnd)
      (q : PolledPeer I D S M N) (kept' : List SentPacket) → PollsShown m at p packets shown between kept → is_timeout shown ≡ false → DrainsOn m at between kept rest end q kept'
      → DrainsOn m at p packets (shown ∷ rest) end q kept'
  in_front p packets (Timeout moment reason) between kept rest end q kept' h on more = absurd (let e : true ≡ false = on in cc)
  in_front p packets (Packet number len) between kept rest end q kept' h on more = (between, kept, h, more)
  in_front p packets (Event event) between kept rest end q kept' h on more = (between, kept, h, more)

  -- a turn that is followed by another
  pub left_more : (first : PolledPeer I D S M N) (packets : List SentPacket) (outputs outputs' : List (Shown E)) (p q : PolledPeer I D S M N) (kept kept' : List SentPacket)
      → DrainsLeft first packets outputs p kept → TakesTurn m at p kept outputs More q kept' outputs' → DrainsLeft first packets outputs' q kept'
  left_more first packets outputs outputs' p q kept kept' left turn = record {
    makes = λ rest end o last h.
        let whole : DrainsOn m at first packets (outputs ++ turn.0 ∷ rest) end o last = left.makes (turn.0 ∷ rest) end o last (in_front p kept turn.0 q kept' rest end o last turn.1 turn.2 h) in
        let same : outputs' ++ rest ≡ outputs ++ turn.0 ∷ rest = ap (λ (front : List (Shown E)). front ++ rest) turn.3 ∙ append_assoc outputs (turn.0 ∷ []) rest in
        subst (λ (all : List (Shown E)). DrainsOn m at first packets all end o last) (sym same) whole;
  }

  -- a timeout ends a drain
  last_shown : (p : PolledPeer I D S M N) (packets : List SentPacket) (shown : Shown E) (q : PolledPeer I D S M N) (kept : List SentPacket) → PollsShown m at p packets shown q kept
      → is_timeout shown ≡ true → DrainsOn m at p packets (shown ∷ []) Ended q kept
  last_shown p packets (Timeout moment reason) q kept h on = h
  last_shown p packets (Packet number len) q kept h on = absurd (let e : false ≡ true = on in cc)
  last_shown p packets (Event event) q kept h on = absurd (let e : false ≡ true = on in cc)

  pub left_over : (first : PolledPeer I D S M N) (packets : List SentPacket) (outputs outputs' : List (Shown E)) (p q : PolledPeer I D S M N) (kept kept' : List SentPacket)
      → DrainsLeft first packets outputs p kept → TakesTurn m at p kept outputs Over q kept' outputs' → DrainsOn m at first packets outputs' Ended q kept'
  left_over first packets outputs outputs' p q kept kept' left turn =
      subst (λ (all : List (Shown E)). DrainsOn m at first packets all Ended q kept') (sym turn.3)
      (left.makes (turn.0 ∷ []) Ended q kept' (last_shown p kept turn.0 q kept' turn.1 turn.2))

  -- so does an error
  pub left_refused : (first : PolledPeer I D S M N) (packets : List SentPacket) (outputs outputs' : List (Shown E)) (p q : PolledPeer I D S M N) (kept kept' : List SentPacket) (error : RtcError)
      → DrainsLeft first packets outputs p kept → TakesTurn m at p kept outputs (Refused error) q kept' outputs' → DrainsOn m at first packets outputs' (EndRefused error) q kept'
  left_refused first packets outputs outputs' p q kept kept' error left turn =
      subst (λ (all : List (Shown E)). DrainsOn m at first packets all (EndRefused error) q kept') (append-nil outputs ∙ sym turn.2)
      (left.makes [] (EndRefused error) q kept' (turn.0, turn.1))

  -- and want of room
  pub left_lacking : (first : PolledPeer I D S M N) (packets : List SentPacket) (outputs : List (Shown E)) (p : PolledPeer I D S M N) (kept : List SentPacket)
      → DrainsLeft first packets outputs p kept → DrainsOn m at first packets outputs NoRoom p kept
  left_lacking first packets outputs p kept left =
      subst (λ (all : List (Shown E)). DrainsOn m at first packets all NoRoom p kept) (append-nil outputs) (left.makes [] NoRoom p kept (refl, refl))

  -- ---- the ends of a drain, which polled once at least

  ended : (p : PolledPeer I D S M N) (packets : List SentPacket) (outputs : List (Shown E)) (q : PolledPeer I D S M N) (kept : List SentPacket)
      → DrainsOn m at p packets outputs Ended q kept → DrainsPeer m at p packets outputs Ended q kept
  ended p packets [] q kept h = h
  ended p packets (shown ∷ outputs) q kept h = h

  refused : (p : PolledPeer I D S M N) (packets : List SentPacket) (outputs : List (Shown E)) (error : RtcError) (q : PolledPeer I D S M N) (kept : List SentPacket)
      → DrainsOn m at p packets outputs (EndRefused error) q kept → DrainsPeer m at p packets outputs (EndRefused error) q kept
  refused p packets [] error q kept h = h
  refused p packets (shown ∷ outputs) error q kept h = h

  lacking : (p : PolledPeer I D S M N) (packets : List SentPacket) (outputs : List (Shown E)) (q : PolledPeer I D S M N) (kept : List SentPacket)
      → 1 ≤ length outputs → DrainsOn m at p packets outputs NoRoom q kept → DrainsPeer m at p packets outputs NoRoom q kept
  lacking p packets [] q kept some h = absurd (omega arith)
  lacking p packets (shown ∷ outputs) q kept some h = h

  pub drains_ended : (first : PolledPeer I D S M N) (packets : List SentPacket) (outputs outputs' : List (Shown E)) (p q : PolledPeer I D S M N) (kept kept' : List SentPacket)
      → DrainsLeft first packets outputs p kept → TakesTurn m at p kept outputs Over q kept' outputs' → DrainsPeer m at first packets outputs' Ended q kept'
  drains_ended first packets outputs outputs' p q kept kept' left turn =
      ended first packets outputs' q kept' (left_over first packets outputs outputs' p q kept kept' left turn)

  pub drains_refused : (first : PolledPeer I D S M N) (packets : List SentPacket) (outputs outputs' : List (Shown E)) (p q : PolledPeer I D S M N) (kept kept' : List SentPacket) (error : RtcError)
      → DrainsLeft first packets outputs p kept → TakesTurn m at p kept outputs (Refused error) q kept' outputs' → DrainsPeer m at first packets outputs' (EndRefused error) q kept'
  drains_refused first packets outputs outputs' p q kept kept' error left turn =
      refused first packets outputs' error q kept' (left_refused first packets outputs outputs' p q kept kept' error left turn)

  -- with room made behind a turn, or not
  pub left_same : (first : PolledPeer I D S M N) (packets : List SentPacket) (outputs outputs' same : List (Shown E)) (p q : PolledPeer I D S M N) (kept kept' sames : List SentPacket)
      → DrainsLeft first packets outputs p kept → TakesTurn m at p kept outputs More q kept' outputs' → same ≡ outputs' → sames ≡ kept'
      → DrainsLeft first packets same q sames
  left_same first packets outputs outputs' same p q kept kept' sames left turn is are =
      rw (is, are) (left_more first packets outputs outputs' p q kept kept' left turn)

  pub turn_counts : (p : PolledPeer I D S M N) (kept : List SentPacket) (outputs : List (Shown E)) (q : PolledPeer I D S M N) (kept' : List SentPacket) (outputs' : List (Shown E))
      → TakesTurn m at p kept outputs More q kept' outputs' → length outputs' ≡ length outputs + 1
  turn_counts p kept outputs q kept' outputs' turn = ap length turn.3 ∙ length-append outputs (turn.0 ∷ [])

  pub count_more : (p : PolledPeer I D S M N) (kept : List SentPacket) (outputs : List (Shown E)) (q : PolledPeer I D S M N) (kept' : List SentPacket) (outputs' same : List (Shown E)) (turns : ℕ)
      → TakesTurn m at p kept outputs More q kept' outputs' → same ≡ outputs' → length outputs ≡ turns → length same ≡ turns + 1
  count_more p kept outputs q kept' outputs' same turns turn is count =
      ap length is ∙ turn_counts p kept outputs q kept' outputs' turn ∙ ap (λ (n : ℕ). n + 1) count

  pub some_more : (p : PolledPeer I D S M N) (kept : List SentPacket) (outputs : List (Shown E)) (q : PolledPeer I D S M N) (kept' : List SentPacket) (outputs' same : List (Shown E))
      → TakesTurn m at p kept outputs More q kept' outputs' → same ≡ outputs' → 1 ≤ length same
  some_more p kept outputs q kept' outputs' same turn is =
      let counts : length same ≡ length outputs + 1 = ap length is ∙ turn_counts p kept outputs q kept' outputs' turn in
      omega arith

  pub drains_lacking : (first : PolledPeer I D S M N) (packets : List SentPacket) (outputs : List (Shown E)) (p : PolledPeer I D S M N) (kept : List SentPacket)
      → DrainsLeft first packets outputs p kept → 1 ≤ length outputs → DrainsPeer m at first packets outputs NoRoom p kept
  drains_lacking first packets outputs p kept left some = lacking first packets outputs p kept some (left_lacking first packets outputs p kept left)

-- ---- one poll, by what is shown of its output

module _ {I D S M E X T W N : Type 0} (m : Meanings I D S M E X T W N) where
  polled_shown : (at : Side) (p : PolledPeer I D S M N) (packets : List SentPacket) (output : Output E) (reason : Reason) (shown : Shown E) (q : PolledPeer I D S M N) (packets' : List SentPacket)
      → PollsPeer m p (Ok output) q → reason ≡ q.transport.last_reason → ShowsOutput at packets reason output shown packets' → PollsShown m at p packets shown q packets'
  polled_shown at p packets (polled.Timeout moment) reason shown q packets' polls is shows =
      subst (λ (s : Shown E). PollsShown m at p packets s q packets') (sym shows.0) (polls, is, shows.1)
  polled_shown at p packets (polled.Transmit transmit) reason shown q packets' polls is shows =
      subst (λ (s : Shown E). PollsShown m at p packets s q packets') (sym shows.0) (transmit, polls, refl, refl, shows.1)
  polled_shown at p packets (polled.Event event) reason shown q packets' polls is shows =
      subst (λ (s : Shown E). PollsShown m at p packets s q packets') (sym shows.0) (polls, shows.1)

  -- a turn, by what is shown of its output
  turned : (at : Side) (p : PolledPeer I D S M N) (packets : List SentPacket) (outputs : List (Shown E)) (shown : Shown E) (q : PolledPeer I D S M N) (packets' : List SentPacket) (outputs' : List (Shown E)) (turn : Turn) (over : Bool)
      → is_timeout shown ≡ over → PollsShown m at p packets shown q packets' → outputs' ≡ outputs ++ shown ∷ [] → turn ≡ (if over then Over else More)
      → TakesTurn m at p packets outputs turn q packets' outputs'
  turned at p packets outputs shown q packets' outputs' turn true is polls put told = rw told (shown, polls, is, put)
  turned at p packets outputs shown q packets' outputs' turn false is polls put told = rw told (shown, polls, is, put)

  pub turn_shown : (at : Side) (p : PolledPeer I D S M N) (packets : List SentPacket) (outputs : List (Shown E)) (output : Output E) (reason : Reason) (shown : Shown E) (q : PolledPeer I D S M N) (packets' : List SentPacket) (outputs' : List (Shown E)) (turn : Turn)
      → PollsPeer m p (Ok output) q → reason ≡ q.transport.last_reason → ShowsOutput at packets reason output shown packets' → outputs' ≡ outputs ++ shown ∷ []
      → turn ≡ (if is_timeout shown then Over else More) → TakesTurn m at p packets outputs turn q packets' outputs'
  turn_shown at p packets outputs output reason shown q packets' outputs' turn polls is shows put told =
      turned at p packets outputs shown q packets' outputs' turn (is_timeout shown) refl (polled_shown at p packets output reason shown q packets' polls is shows) put told

  -- ---- the reply to polls

  pub told_polls : (polls : List SentPacket → List (Shown E) → PollEnd → PolledPeer I D S M N → List SentPacket → Type 0) (old : PolledPeer I D S M N) (packets same : List SentPacket) (outputs : List (Shown E)) (end : PollEnd)
      (outcome : Outcome E) (table : Option Table) (new : PolledPeer I D S M N) (packets' : List SentPacket) → polls same outputs end new packets' → same ≡ packets → outcome ≡ Polled outputs end
      → table ≡ Some (shown_table m.association new.core) → StepPollsPeer m polls old packets outcome table new packets'
  told_polls polls old packets same outputs end outcome table new packets' polled same_is outcome_is table_is =
      let kept : polls packets outputs end new packets' = subst (λ (list : List SentPacket). polls list outputs end new packets') same_is polled in
      rw (outcome_is, table_is) (kept, record { lines = refl; channels = refl })

  -- one turn is one poll
  pub one_turn : (at : Side) (p : PolledPeer I D S M N) (packets : List SentPacket) (none : List (Shown E)) (turn : Turn) (q : PolledPeer I D S M N) (packets' : List SentPacket) (outputs : List (Shown E)) (end : PollEnd)
      → TakesTurn m at p packets none turn q packets' outputs → none ≡ [] → end ≡ end_of turn → PollsOnce m at p packets outputs end q packets'
  one_turn at p packets none More q packets' outputs end takes is ends =
      let only : outputs ≡ takes.0 ∷ [] = takes.3 ∙ ap (λ (front : List (Shown E)). front ++ takes.0 ∷ []) is in
      rw (only, ends) takes.1
  one_turn at p packets none Over q packets' outputs end takes is ends =
      let only : outputs ≡ takes.0 ∷ [] = takes.3 ∙ ap (λ (front : List (Shown E)). front ++ takes.0 ∷ []) is in
      rw (only, ends) takes.1
  one_turn at p packets none (Refused error) q packets' outputs end takes is ends =
      let empty : outputs ≡ [] = takes.2 ∙ is in
      rw (empty, ends) (takes.0, takes.1)
