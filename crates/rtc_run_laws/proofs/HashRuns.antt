-- No reply of a run prints the name of a hash function with a line feed.
use Rattle.std.proofs.Common.{◌≡◌, ℕ, Bool, true, false, true≢false, List, [], ◌∷◌, length, Option, Some, None, Result, Ok, Err, sym, subst}
use Rattle.std.specs.Prelude.{IfSome}
use Rattle.std.specs.List.{AllByRecursion}
use Rattle.rtc_wire.specs.DatagramRecv.{kind_by}
use Rattle.rtc_wire.specs.declared.multiplex_kind.MultiplexKind.{MultiplexKind}
use Rattle.rtc_wire.specs.declared.net_error.NetError.{NetError}
use Rattle.rtc_wire.specs.declared.transmit.Transmit.{Transmit}
use Rattle.rtc_sdp_values.specs.declared.fingerprint.Fingerprint.{Fingerprint}
use Rattle.rtc_sdp_values.specs.declared.line_row.LineRow.{LineRow}
use Rattle.rtc_change.specs.Held.{Asked, Held}
use Rattle.rtc_change.specs.PendingOffer.{PendingOffer}
use Rattle.rtc_peer_rows.specs.declared.why.Why.{Why}
use Rattle.rtc_peer_core.specs.declared.peer.Peer.{Peer}
use Rattle.rtc_peer_core.specs.declared.rtc_error.RtcError.{RtcError}
use Rattle.rtc_peer_core.specs.declared.rtc_error.RtcError.TheVariants.{RemoteSdp}
use Rattle.rtc_peer_core.specs.Meanings.{Meanings, PartsLaws}
use Rattle.rtc_peer_core.specs.Stance.{held_by}
use Rattle.rtc_peer_core.proofs.Alls.{all-append}
use Rattle.rtc_peer_transport.specs.declared.input.Input.TheVariants as given
use Rattle.rtc_peer_transport.specs.declared.polled_peer.PolledPeer.{PolledPeer}
use Rattle.rtc_run_history.specs.declared.kept.Kept.{Kept}
use Rattle.rtc_run_history.specs.declared.outcome.Outcome.{Outcome}
use Rattle.rtc_run_history.specs.declared.outcome.Outcome.TheVariants.{Polled, Refused}
use Rattle.rtc_run_history.specs.declared.poll_end.PollEnd.{PollEnd}
use Rattle.rtc_run_history.specs.declared.poll_end.PollEnd.TheVariants.{Refused as EndRefused}
use Rattle.rtc_run_history.specs.declared.reply.Reply.{Reply}
use Rattle.rtc_run_history.specs.declared.sent_packet.SentPacket.{SentPacket}
use Rattle.rtc_run_history.specs.declared.shown.Shown.{Shown}
use Rattle.rtc_run_history.specs.declared.shown.Shown.TheVariants.{Timeout, Packet, Event}
use Rattle.rtc_run_history.specs.declared.side.Side.{Side}
use Rattle.rtc_run_history.specs.declared.step.Step.{Step}
use Rattle.rtc_run_history.specs.declared.step.Step.TheVariants.{Negotiate, AcceptOffer, AcceptAnswer, Time, Datagram, Poll, Drain, Write, CloseChannel, Close, Rollback, ForeignOffer, ForeignAnswer, Raw}
use Rattle.rtc_run_history.specs.declared.table.Table.{Table}
use Rattle.rtc_run_history.specs.Fresh.{IsFresh}
use Rattle.rtc_run_history.specs.PairState.{PairState, addr_at, held_token, kept_remote_sdp, peer_at, remote_packet, rtc_at, stances_of}
use Rattle.rtc_run_history.specs.Past.{Entry, MadeSdp, holds_token, is_right, remote_sdp, replies_of, reply_of, sdps}
use Rattle.rtc_run_history.specs.Performs.{Acts, DrainsOn, DrainsPeer, HandlesRead, PollsOnce, StepAcceptsAnswer, StepAcceptsOffer, StepRollsBack, StepTakesDatagram, raw_datagram}
use Rattle.rtc_run_history.specs.Runs.{EntersSoundly, Runs, Went}
use Rattle.rtc_run_history.specs.Sides.{other_side, side_of}
use Rattle.rtc_run_history.specs.Signalled.{NotMade, Readable, Signalled, Unreadable, foreign}
use Rattle.rtc_run_history.specs.Sound.{IsSound, RepliesToAnswer, RepliesToOffer, RepliesToRollback, asked_in, is_glare_at}
use Rattle.rtc_run_history.specs.Undone.{table_shown, table_undone}
use Rattle.rtc_run_history.specs.Views.{Stances, view_in}
use Rattle.rtc_run_laws.proofs.EmptyStreams.{AreUnused}
use Rattle.rtc_run_laws.proofs.HashCauses.{WhyNames, refused_names}
use Rattle.rtc_run_laws.proofs.HashPolls.{KnowsName, close_never, input_never, poll_names}
use Rattle.rtc_run_laws.proofs.HashSides.{KnowsLine, reached_know}
use Rattle.rtc_run_laws.proofs.ReadHashes.{HasLineName}
use Rattle.rtc_run_laws.proofs.StanceRuns.{fresh_unused, ran_reached, ran_stands}
use Rattle.rtc_run_laws.proofs.StanceSteps.{pair_stance}

-- what is printed of a hash function is in one line
abbrev pub ErrorNames : RtcError → Type 0
ErrorNames (RemoteSdp why) = WhyNames why
ErrorNames _ = Unit {0}

abbrev pub EndNames : PollEnd → Type 0
EndNames (EndRefused error) = ErrorNames error
EndNames _ = Unit {0}

abbrev pub OutcomeNames : {E : Type 0} → Outcome E → Type 0
OutcomeNames (Polled outputs end) = EndNames end
OutcomeNames (Refused error) = ErrorNames error
OutcomeNames _ = Unit {0}

abbrev pub RepliesName : {E : Type 0} → List (Reply E) → Type 0
RepliesName replies = AllByRecursion (λ reply. OutcomeNames reply.outcome) replies

-- ---- session descriptions that are refused

offer_why : (E : Type 0) (glare : Bool) (sdp : Signalled) (view : Held) (next : ℕ) (why : Why) (after : List LineRow)
    → RepliesToOffer {E = E} glare sdp view next (Refused (RemoteSdp why)) after → WhyNames why
offer_why E true NotMade view next why after h = absurd h
offer_why E true (Unreadable line) view next why after h = absurd (cc (h.0))
offer_why E true (Readable sdp) view next why after h = absurd h
offer_why E false NotMade view next why after h = absurd h
offer_why E false (Unreadable line) view next why after h = absurd (cc (h.0))
offer_why E false (Readable sdp) view next why after h = refused_names view None sdp why h.0

answer_why : (E : Type 0) (held right : Bool) (asked : Asked) (sdp : Signalled) (view : Held) (why : Why) (after : List LineRow)
    → RepliesToAnswer {E = E} held right asked sdp view (Refused (RemoteSdp why)) after → WhyNames why
answer_why E true true asked NotMade view why after h = absurd h
answer_why E true true asked (Unreadable line) view why after h = absurd (cc (h.0))
answer_why E true true asked (Readable sdp) view why after h = refused_names view (Some asked) sdp why h.0
answer_why E true false asked NotMade view why after h = absurd h
answer_why E true false asked (Unreadable line) view why after h = absurd (cc (h.0))
answer_why E true false asked (Readable sdp) view why after h = absurd h
answer_why E false true asked NotMade view why after h = absurd h
answer_why E false true asked (Unreadable line) view why after h = absurd h
answer_why E false true asked (Readable sdp) view why after h = absurd h
answer_why E false false asked NotMade view why after h = absurd h
answer_why E false false asked (Unreadable line) view why after h = absurd h
answer_why E false false asked (Readable sdp) view why after h = absurd h

rollback_why : (E : Type 0) (held right : Bool) (earlier undone : Table) (why : Why) (table : Table)
    → RepliesToRollback {E = E} held right earlier undone (Refused (RemoteSdp why)) table → ⊥
rollback_why E true true earlier undone why table h = h
rollback_why E true false earlier undone why table h = h
rollback_why E false true earlier undone why table h = h
rollback_why E false false earlier undone why table h = h

module _ {I D S M E X T W N : Type 0} (m : Meanings I D S M E X T W N) (stun : List ℕ → Bool) where
  -- ---- calls of a step

  read_never : (kind : Result MultiplexKind NetError) (transmit : Transmit) (now : ℕ) (p q : PolledPeer I D S M N) (why : Why)
      → HandlesRead m kind transmit now p (Err (RemoteSdp why)) q → ⊥
  read_never (Err cause) transmit now p q why h = cc (h.0)
  read_never (Ok kind) transmit now p q why h = input_never m (given.Receive now h.0) p q why h.2

  datagram_never : (found : Option Transmit) (now : ℕ) (old new : PolledPeer I D S M N) (why : Why) (table : Option Table)
      → StepTakesDatagram m stun found now old (Refused (RemoteSdp why)) table new → ⊥
  datagram_never None now old new why None h = h
  datagram_never None now old new why (Some table) h = h
  datagram_never (Some transmit) now old new why None h = h
  datagram_never (Some transmit) now old new why (Some table) h = read_never (kind_by stun transmit.contents) transmit now old new why h.0

  -- why a step is refused for what the other side described
  refused_why : (fresh : Stances) (past : List (Entry E)) (between : Stances) (step : Step) (why : Why) (table : Option Table) (made : List MadeSdp) (old new : PairState I D S M N)
      → Acts m stun (addr_at (other_side (side_of step)) old) (addr_at (side_of step) old) step (rtc_at (side_of step) old) old.sdps old.packets (Refused (RemoteSdp why)) table
      (rtc_at (side_of step) new) new.sdps new.packets
      → IsSound fresh past between step (Refused (RemoteSdp why)) table made → WhyNames why
  refused_why fresh past between (Negotiate at ops apply) why None made old new acts sound = absurd acts.0
  refused_why fresh past between (Negotiate at ops apply) why (Some table) made old new acts sound = absurd acts.0
  refused_why fresh past between (AcceptOffer at k) why None made old new acts sound = absurd sound
  refused_why fresh past between (AcceptOffer at k) why (Some table) made old new acts sound =
      offer_why E (is_glare_at fresh at past) (remote_sdp true at k past) (view_in fresh at past (held_by (between at))) (length (sdps past)) why table.lines sound.0
  refused_why fresh past between (AcceptAnswer at t a) why None made old new acts sound = absurd sound
  refused_why fresh past between (AcceptAnswer at t a) why (Some table) made old new acts sound =
      answer_why E (holds_token at t past) (is_right at t past) (asked_in at t past) (remote_sdp false at a past) (view_in fresh at past (held_by (between at))) why table.lines sound.0
  refused_why fresh past between (ForeignOffer at text) why None made old new acts sound = absurd sound
  refused_why fresh past between (ForeignOffer at text) why (Some table) made old new acts sound =
      offer_why E (is_glare_at fresh at past) (foreign text) (view_in fresh at past (held_by (between at))) (length (sdps past)) why table.lines sound.0
  refused_why fresh past between (ForeignAnswer at t text) why None made old new acts sound = absurd sound
  refused_why fresh past between (ForeignAnswer at t text) why (Some table) made old new acts sound =
      answer_why E (holds_token at t past) (is_right at t past) (asked_in at t past) (foreign text) (view_in fresh at past (held_by (between at))) why table.lines sound.0
  refused_why fresh past between (Rollback at t) why None made old new acts sound = absurd sound
  refused_why fresh past between (Rollback at t) why (Some table) made old new acts sound =
      absurd (rollback_why E (holds_token at t past) (is_right at t past) (table_shown at past) (table_undone at t past) why table sound)
  refused_why fresh past between (Time at now) why None made old new acts sound = absurd acts.0
  refused_why fresh past between (Time at now) why (Some table) made old new acts sound = absurd (input_never m (given.Timeout now) (rtc_at at old) (rtc_at at new) why acts.0.0)
  refused_why fresh past between (Datagram at packet now) why table made old new acts sound =
      absurd (datagram_never (remote_packet old.packets at packet) now (rtc_at at old) (rtc_at at new) why table acts.0)
  refused_why fresh past between (Raw at bytes now) why None made old new acts sound = absurd acts.0
  refused_why fresh past between (Raw at bytes now) why (Some table) made old new acts sound =
      absurd (read_never (kind_by stun bytes) (raw_datagram (addr_at (other_side at) old) (addr_at at old) bytes) now (rtc_at at old) (rtc_at at new) why acts.0.0)
  refused_why fresh past between (Poll at) why None made old new acts sound = absurd acts.0
  refused_why fresh past between (Poll at) why (Some table) made old new acts sound = absurd acts.0
  refused_why fresh past between (Drain at) why None made old new acts sound = absurd acts.0
  refused_why fresh past between (Drain at) why (Some table) made old new acts sound = absurd acts.0
  refused_why fresh past between (Write at channel binary bytes) why None made old new acts sound = absurd sound
  refused_why fresh past between (Write at channel binary bytes) why (Some table) made old new acts sound = absurd (true≢false (sym sound.0))
  refused_why fresh past between (CloseChannel at channel) why None made old new acts sound = absurd sound
  refused_why fresh past between (CloseChannel at channel) why (Some table) made old new acts sound = absurd (true≢false (sym sound.0))
  refused_why fresh past between (Close at) why None made old new acts sound = absurd acts.0
  refused_why fresh past between (Close at) why (Some table) made old new acts sound = absurd (close_never m (rtc_at at old) (rtc_at at new) why acts.0.0)

  -- ---- polls that are refused

  once_why : (at : Side) (p : PolledPeer I D S M N) (packets : List SentPacket) (outputs : List (Shown E)) (why : Why) (q : PolledPeer I D S M N) (packets' : List SentPacket)
      → PollsOnce m at p packets outputs (EndRefused (RemoteSdp why)) q packets' → KnowsName q → WhyNames why
  once_why at p packets [] why q packets' h known = poll_names m p q why h.0 known
  once_why at p packets (shown ∷ []) why q packets' h known = absurd h
  once_why at p packets (shown ∷ next ∷ outputs) why q packets' h known = absurd h

  drains_why : (at : Side) (p : PolledPeer I D S M N) (packets : List SentPacket) (outputs : List (Shown E)) (why : Why) (q : PolledPeer I D S M N) (packets' : List SentPacket)
      → DrainsOn m at p packets outputs (EndRefused (RemoteSdp why)) q packets' → KnowsName q → WhyNames why
  drains_why at p packets [] why q packets' h known = poll_names m p q why h.0 known
  drains_why at p packets (Timeout moment reason ∷ []) why q packets' h known = absurd h
  drains_why at p packets (Timeout moment reason ∷ next ∷ outputs) why q packets' h known = absurd h
  drains_why at p packets (Packet number len ∷ outputs) why q packets' h known = drains_why at h.0 h.1 outputs why q packets' h.3 known
  drains_why at p packets (Event event ∷ outputs) why q packets' h known = drains_why at h.0 h.1 outputs why q packets' h.3 known

  drained_why : (at : Side) (p : PolledPeer I D S M N) (packets : List SentPacket) (outputs : List (Shown E)) (why : Why) (q : PolledPeer I D S M N) (packets' : List SentPacket)
      → DrainsPeer m at p packets outputs (EndRefused (RemoteSdp why)) q packets' → KnowsName q → WhyNames why
  drained_why at p packets [] why q packets' h known = drains_why at p packets [] why q packets' h known
  drained_why at p packets (shown ∷ outputs) why q packets' h known = drains_why at p packets (shown ∷ outputs) why q packets' h known

  unpolled_offer : (at : Side) (offer : Signalled) (old new : Peer I D S M N) (kept kept' : List Kept) (outputs : List (Shown E)) (end : PollEnd) (table : Option Table)
      → StepAcceptsOffer m at offer old kept (Polled outputs end) table new kept' → ⊥
  unpolled_offer at NotMade old new kept kept' outputs end None h = h
  unpolled_offer at NotMade old new kept kept' outputs end (Some table) h = h
  unpolled_offer at (Unreadable line) old new kept kept' outputs end None h = h
  unpolled_offer at (Unreadable line) old new kept kept' outputs end (Some table) h = h
  unpolled_offer at (Readable sdp) old new kept kept' outputs end None h = h
  unpolled_offer at (Readable sdp) old new kept kept' outputs end (Some table) h = h

  unpolled_answer : (t : ℕ) (token : Option PendingOffer) (answer : Signalled) (old new : Peer I D S M N) (kept kept' : List Kept) (outputs : List (Shown E)) (end : PollEnd) (table : Option Table)
      → StepAcceptsAnswer m t token answer old kept (Polled outputs end) table new kept' → ⊥
  unpolled_answer t None NotMade old new kept kept' outputs end None h = h
  unpolled_answer t None NotMade old new kept kept' outputs end (Some table) h = h
  unpolled_answer t None (Unreadable line) old new kept kept' outputs end None h = h
  unpolled_answer t None (Unreadable line) old new kept kept' outputs end (Some table) h = h
  unpolled_answer t None (Readable sdp) old new kept kept' outputs end None h = h
  unpolled_answer t None (Readable sdp) old new kept kept' outputs end (Some table) h = h
  unpolled_answer t (Some token) NotMade old new kept kept' outputs end None h = h
  unpolled_answer t (Some token) NotMade old new kept kept' outputs end (Some table) h = h
  unpolled_answer t (Some token) (Unreadable line) old new kept kept' outputs end None h = h
  unpolled_answer t (Some token) (Unreadable line) old new kept kept' outputs end (Some table) h = h
  unpolled_answer t (Some token) (Readable sdp) old new kept kept' outputs end None h = h
  unpolled_answer t (Some token) (Readable sdp) old new kept kept' outputs end (Some table) h = h

  unpolled_rollback : (t : ℕ) (token : Option PendingOffer) (old new : Peer I D S M N) (kept kept' : List Kept) (outputs : List (Shown E)) (end : PollEnd) (table : Option Table)
      → StepRollsBack m t token old kept (Polled outputs end) table new kept' → ⊥
  unpolled_rollback t None old new kept kept' outputs end None h = h
  unpolled_rollback t None old new kept kept' outputs end (Some table) h = h
  unpolled_rollback t (Some token) old new kept kept' outputs end None h = h
  unpolled_rollback t (Some token) old new kept kept' outputs end (Some table) h = h

  -- why polls of a step are refused for what the other side described
  polled_why : (fresh : Stances) (past : List (Entry E)) (between : Stances) (step : Step) (outputs : List (Shown E)) (why : Why) (table : Option Table) (made : List MadeSdp) (old new : PairState I D S M N)
      → Acts m stun (addr_at (other_side (side_of step)) old) (addr_at (side_of step) old) step (rtc_at (side_of step) old) old.sdps old.packets (Polled outputs (EndRefused (RemoteSdp why))) table
      (rtc_at (side_of step) new) new.sdps new.packets
      → IsSound fresh past between step (Polled outputs (EndRefused (RemoteSdp why))) table made → KnowsName (rtc_at (side_of step) new) → WhyNames why
  polled_why fresh past between (Poll at) outputs why None made old new acts sound known = absurd acts.0
  polled_why fresh past between (Poll at) outputs why (Some table) made old new acts sound known =
      once_why at (rtc_at at old) old.packets outputs why (rtc_at at new) new.packets acts.0.0 known
  polled_why fresh past between (Drain at) outputs why None made old new acts sound known = absurd acts.0
  polled_why fresh past between (Drain at) outputs why (Some table) made old new acts sound known =
      drained_why at (rtc_at at old) old.packets outputs why (rtc_at at new) new.packets acts.0.0 known
  polled_why fresh past between (Negotiate at ops apply) outputs why None made old new acts sound known = absurd acts.0
  polled_why fresh past between (Negotiate at ops apply) outputs why (Some table) made old new acts sound known = absurd acts.0
  polled_why fresh past between (AcceptOffer at k) outputs why table made old new acts sound known =
      absurd (unpolled_offer at (kept_remote_sdp true old.sdps at k) (peer_at at old) (peer_at at new) old.sdps new.sdps outputs (EndRefused (RemoteSdp why)) table acts.0)
  polled_why fresh past between (ForeignOffer at text) outputs why table made old new acts sound known =
      absurd (unpolled_offer at (foreign text) (peer_at at old) (peer_at at new) old.sdps new.sdps outputs (EndRefused (RemoteSdp why)) table acts.0)
  polled_why fresh past between (AcceptAnswer at t a) outputs why table made old new acts sound known =
      absurd (unpolled_answer t (held_token old.sdps at t) (kept_remote_sdp false old.sdps at a) (peer_at at old) (peer_at at new) old.sdps new.sdps outputs (EndRefused (RemoteSdp why)) table acts.0)
  polled_why fresh past between (ForeignAnswer at t text) outputs why table made old new acts sound known =
      absurd (unpolled_answer t (held_token old.sdps at t) (foreign text) (peer_at at old) (peer_at at new) old.sdps new.sdps outputs (EndRefused (RemoteSdp why)) table acts.0)
  polled_why fresh past between (Rollback at t) outputs why table made old new acts sound known =
      absurd (unpolled_rollback t (held_token old.sdps at t) (peer_at at old) (peer_at at new) old.sdps new.sdps outputs (EndRefused (RemoteSdp why)) table acts.0)
  polled_why fresh past between (Time at now) outputs why None made old new acts sound known = absurd sound
  polled_why fresh past between (Time at now) outputs why (Some table) made old new acts sound known = absurd (true≢false (sym sound.0))
  polled_why fresh past between (Datagram at packet now) outputs why None made old new acts sound known = absurd sound
  polled_why fresh past between (Datagram at packet now) outputs why (Some table) made old new acts sound known = absurd (true≢false (sym sound.0))
  polled_why fresh past between (Raw at bytes now) outputs why None made old new acts sound known = absurd sound
  polled_why fresh past between (Raw at bytes now) outputs why (Some table) made old new acts sound known = absurd (true≢false (sym sound.0))
  polled_why fresh past between (Write at channel binary bytes) outputs why None made old new acts sound known = absurd sound
  polled_why fresh past between (Write at channel binary bytes) outputs why (Some table) made old new acts sound known = absurd (true≢false (sym sound.0))
  polled_why fresh past between (CloseChannel at channel) outputs why None made old new acts sound known = absurd sound
  polled_why fresh past between (CloseChannel at channel) outputs why (Some table) made old new acts sound known = absurd (true≢false (sym sound.0))
  polled_why fresh past between (Close at) outputs why None made old new acts sound known = absurd sound
  polled_why fresh past between (Close at) outputs why (Some table) made old new acts sound known = absurd (true≢false (sym sound.0))

  -- ---- entries and runs

  entry_names : (start : PairState I D S M N) (past : List (Entry E)) (old : PairState I D S M N) (step : Step) (outcome : Outcome E) (table : Option Table) (made : List MadeSdp) (new : PairState I D S M N)
      → EntersSoundly m stun start past old (record { step = step; outcome = outcome; table = table; made = made }) new → KnowsName (rtc_at (side_of step) new) → OutcomeNames outcome
  entry_names start past old step (Refused (RemoteSdp why)) table made new h known =
      refused_why (stances_of m start) past (stances_of m old) step why table made old new h.0.performs.acts h.1.replied
  entry_names start past old step (Polled outputs (EndRefused (RemoteSdp why))) table made new h known =
      polled_why (stances_of m start) past (stances_of m old) step outputs why table made old new h.0.performs.acts h.1.replied known
  entry_names start past old step _ table made new h known = tt

  went_names : (laws : PartsLaws m) (start : PairState I D S M N) → AreUnused m laws start → ((at : Side) → KnowsLine (stances_of m start at)) → (past : List (Entry E)) (pair : PairState I D S M N)
      → Went (EntersSoundly m stun start) (λ fresh. fresh ≡ start) past pair → RepliesName (replies_of past)
  went_names laws start unused known [] pair went = tt
  went_names laws start unused known (last ∷ past) pair went =
      let knows : (at : Side) → KnowsLine (stances_of m pair at) =
      reached_know (pair_stance m start) (pair_stance m pair) (last ∷ past) known
      (ran_reached (pair_stance m start) (last ∷ past) (pair_stance m pair) (ran_stands m stun laws start (last ∷ past) pair unused went)) in
      all-append (λ (reply : Reply E). OutcomeNames reply.outcome) (replies_of past) (reply_of last ∷ [])
      (went_names laws start unused known past went.0 went.1)
      (entry_names start past went.0 last.step last.outcome last.table last.made pair went.2 (knows (side_of last.step)), tt)

  -- so it is of the replies of a run from a fresh pair
  pub runs_name : PartsLaws m → (start pair : PairState I D S M N) (steps : List Step) (replies : List (Reply E)) → IsFresh m start → Runs m stun start steps replies pair → RepliesName replies
  runs_name laws start pair steps replies fresh run =
      subst (λ (told : List (Reply E)). RepliesName told) run.replies_are
      (went_names laws start (fresh_unused m laws start fresh)
      (λ at. subst (λ (found : Option Fingerprint). IfSome found HasLineName) (sym (fresh.built at).fingerprint) tt) run.past pair run.went)
