-- In a run of new pairs a peer whose handshake is reported as finished can send application data over its DTLS connection.
use Rattle.std.proofs.Common.{◌≡◌, ◌∙◌, ◌&&◌, ◌∷◌, ℕ, Bool, true, false, true≢false, List, [], Option, Result, refl, sym, ap, subst}
use Rattle.std.specs.Prelude.{is_some}
use Rattle.rtc_wire.specs.declared.addr.Addr.{Addr}
use Rattle.rtc_assoc_state.proofs.PlainLaws.{plain_laws}
use Rattle.rtc_parts.specs.Draws.{Draws}
use Rattle.rtc_parts.specs.DtlsActs.{DtlsMoved}
use Rattle.rtc_parts.specs.DtlsWords.{dtls_given}
use Rattle.rtc_parts.specs.IceConnectionState.{state_is_connected}
use Rattle.rtc_plain_ice.specs.PlainMeaning.{plain_ice}
use Rattle.rtc_plain_dtls.specs.Contents.{fresh_dtls, phase_is_finished}
use Rattle.rtc_plain_dtls.specs.PlainMeaning.{plain_dtls}
use Rattle.rtc_plain_dtls.specs.declared.phase.Phase.{Phase}
use Rattle.rtc_plain_dtls.specs.declared.phase.Phase.TheVariants.{NoRole, AwaitStart, AwaitCert, AwaitHello, AwaitFinish, FinishedActive, FinishedPassive}
use Rattle.rtc_plain_media.specs.PlainMediaMeaning.{plain_media_meaning}
use Rattle.rtc_plain_media.specs.declared.plain_media_event.PlainMediaEvent.{PlainMediaEvent}
use Rattle.rtc_peer_core.specs.declared.rtc_error.RtcError.{RtcError}
use Rattle.rtc_peer_transport.specs.declared.handshake.Handshake.{Handshake}
use Rattle.rtc_peer_transport.specs.declared.handshake.Handshake.TheVariants.{Pending}
use Rattle.rtc_peer_transport.specs.declared.input.Input.TheVariants as given
use Rattle.rtc_peer_transport.specs.ChannelCalls.{open_stream_under}
use Rattle.rtc_peer_transport.specs.Closing.{ClosesPeer}
use Rattle.rtc_peer_transport.specs.Readings.{is_handshake_finished, is_peer_connected}
use Rattle.rtc_peer_polling.specs.Inputs.{HandlesInput}
use Rattle.rtc_peer_laws.specs.PeerActs.{PeerActs, nothing_came}
use Rattle.rtc_peer_laws.proofs.ActedClosing.{close_acts}
use Rattle.rtc_peer_laws.proofs.ActedInputs.{channel_close_acts, input_acts, write_acts}
use Rattle.rtc_peer_laws.proofs.HandshakeMarks.{role_in}
use Rattle.rtc_peer_laws.proofs.HandshakeRoles.{moved_role}
use Rattle.rtc_peer_laws.proofs.QuietStages.{closes_same, handshake_of}
use Rattle.rtc_peer_laws.proofs.ToldCalls.{channel_closes_same, inputs_same, writes_same}
use Rattle.rtc_run_history.specs.declared.kept.Kept.{Kept}
use Rattle.rtc_run_history.specs.declared.outcome.Outcome.{Outcome}
use Rattle.rtc_run_history.specs.declared.reply.Reply.{Reply}
use Rattle.rtc_run_history.specs.declared.sent_packet.SentPacket.{SentPacket}
use Rattle.rtc_run_history.specs.declared.side.Side.{Side}
use Rattle.rtc_run_history.specs.declared.side.Side.TheVariants.{Left, Right}
use Rattle.rtc_run_history.specs.declared.step.Step.{Step}
use Rattle.rtc_run_history.specs.declared.step.Step.TheVariants.{Negotiate, AcceptOffer, AcceptAnswer, Time, Datagram, Poll, Drain}
use Rattle.rtc_run_history.specs.declared.step.Step.TheVariants.{Write, CloseChannel, Close, Rollback, ForeignOffer, ForeignAnswer, Raw}
use Rattle.rtc_run_history.specs.declared.table.Table.{Table}
use Rattle.rtc_run_history.specs.Native.{are_native, is_native}
use Rattle.rtc_run_history.specs.PairState.{addr_at, held_token, kept_remote_sdp, remote_packet, rtc_at}
use Rattle.rtc_run_history.specs.Past.{Entry, steps_of}
use Rattle.rtc_run_history.specs.Performs.{Acts}
use Rattle.rtc_run_history.specs.Runs.{Reached, Runs}
use Rattle.rtc_run_history.specs.Sides.{other_side, side_of}
use Rattle.rtc_run_laws.specs.ConnectedSides.{ConnectedCanSend}
use Rattle.rtc_run_laws.specs.NewPairs.{IsNewPair}
use Rattle.rtc_run_laws.specs.PlainPairs.{HasExchanged, PlainPair, PlainPolled, ShookHands, plain_over}
use Rattle.rtc_run_laws.proofs.ConnectedPolls.{IsFit, fit_on, poll_fit}
use Rattle.rtc_run_laws.proofs.DtlsFinishes.{moved_finishes}
use Rattle.rtc_run_laws.proofs.NativeSteps.{native_entry}
use Rattle.rtc_run_laws.proofs.NegotiationActed.{answer_acts, negotiates_did, offer_acts, rollback_acts}
use Rattle.rtc_run_laws.proofs.NewPeers.{new_exchanged}
use Rattle.rtc_run_laws.proofs.RunsExchange.{reached_exchanged, went_reached}
use Rattle.rtc_run_laws.proofs.StepWalks.{AnyInput, CallsKeep, calls_keep, close_keep, datagram_keep, drain_keep, poll_keep, write_keep}

-- ---- steps

module _ {N : Type 0} (draws : Draws N) where
  abbrev Goes : PlainPolled N → PlainPolled N → Type 0
  Goes p q = IsFit p → IsFit q

  same_goes : (p q : PlainPolled N) → q ≡ p → Goes p q
  same_goes p q is k = subst (λ (x : PlainPolled N). IsFit x) (sym is) k

  -- what does these acts to the DTLS part, and leaves the handshake
  acts_go : (p q : PlainPolled N) (acts : PeerActs) → DtlsMoved plain_dtls p.core.dtls.instance acts.dtls q.core.dtls.instance
      → handshake_of q ≡ handshake_of p → Goes p q
  acts_go p q acts moved same k = fit_on p q same (moved_finishes acts.dtls p.core.dtls.instance q.core.dtls.instance moved) k

  close_goes : (p : PlainPolled N) (r : Result (Unit {0}) RtcError) (q : PlainPolled N) → ClosesPeer (plain_over draws) p r q → Goes p q
  close_goes p r q h =
      let did = close_acts (plain_over draws) nothing_came [] plain_laws p r q h in
      acts_go p q did.acts did.went.dtls (closes_same (plain_over draws) p r q h)

  calls_go : CallsKeep (plain_over draws) AnyInput Goes
  calls_go = record {
    beside = record {
      none = λ p q is. same_goes p q is;
      inputs = λ input any p r q h.
          let did = input_acts (plain_over draws) plain_laws input p r q h in
          acts_go p q did.acts did.went.dtls (inputs_same (plain_over draws) p q input r h);
      writes = λ stream binary bytes p r q h.
          let did = write_acts (plain_over draws) stream binary bytes p r q h in
          acts_go p q did.acts did.went.dtls (writes_same (plain_over draws) p q stream binary bytes r h);
      shuts = λ id p r q h.
          let did = channel_close_acts (plain_over draws) id p r q h in
          acts_go p q did.acts did.went.dtls (channel_closes_same (plain_over draws) p q id r h);
    };
    on = λ p b q h k. λ fit. k (h fit);
    polls = λ p answer q h. λ fit. poll_fit draws p answer q h fit;
  }

  -- each step, an arm each
  acts_fit : (stun : List ℕ → Bool) (other own : Addr) (step : Step) (old : PlainPolled N) (sdps : List Kept) (packets : List SentPacket)
      (outcome : Outcome PlainMediaEvent) (table : Option Table) (new : PlainPolled N) (sdps' : List Kept) (packets' : List SentPacket)
      → is_native step ≡ true → Acts (plain_over draws) stun other own step old sdps packets outcome table new sdps' packets' → Goes old new
  acts_fit stun other own (Negotiate at ops apply) old sdps packets outcome table new sdps' packets' native h =
      let did = negotiates_did (plain_over draws) at ops apply old sdps outcome table new sdps' h.0 in
      acts_go old new did.acts did.went.dtls (ap (λ x. x.handshake) h.1.connection)
  acts_fit stun other own (AcceptOffer at offer) old sdps packets outcome table new sdps' packets' native h =
      let did = offer_acts (plain_over draws) at (kept_remote_sdp true sdps at offer) old sdps outcome table new sdps' h.0 in
      acts_go old new did.acts did.went.dtls (ap (λ x. x.handshake) h.1.connection)
  acts_fit stun other own (AcceptAnswer at token answer) old sdps packets outcome table new sdps' packets' native h =
      let did = answer_acts (plain_over draws) token (held_token sdps at token) (kept_remote_sdp false sdps at answer) old sdps outcome table new sdps' h.0 in
      acts_go old new did.acts did.went.dtls (ap (λ x. x.handshake) h.1.connection)
  acts_fit stun other own (Time at now) old sdps packets outcome table new sdps' packets' native h =
      calls_keep (plain_over draws) Goes calls_go.beside (HandlesInput (plain_over draws) (given.Timeout now))
      (λ p r q k. calls_go.beside.inputs (given.Timeout now) tt p r q k) old outcome table new h.0
  acts_fit stun other own (Datagram at packet now) old sdps packets outcome table new sdps' packets' native h =
      datagram_keep (plain_over draws) Goes calls_go.beside stun (remote_packet packets at packet) now (λ datagram. tt) old outcome table new h.0
  acts_fit stun other own (Poll at) old sdps packets outcome table new sdps' packets' native h =
      poll_keep (plain_over draws) Goes calls_go at old packets outcome table new packets' h.0
  acts_fit stun other own (Drain at) old sdps packets outcome table new sdps' packets' native h =
      drain_keep (plain_over draws) Goes calls_go at old packets outcome table new packets' h.0
  acts_fit stun other own (Write at channel binary bytes) old sdps packets outcome table new sdps' packets' native h =
      write_keep (plain_over draws) Goes calls_go.beside (open_stream_under channel old) binary bytes old outcome table new h.0
  acts_fit stun other own (CloseChannel at channel) old sdps packets outcome table new sdps' packets' native h =
      close_keep (plain_over draws) Goes calls_go.beside (open_stream_under channel old) channel old outcome table new h.0
  acts_fit stun other own (Close at) old sdps packets outcome table new sdps' packets' native h =
      calls_keep (plain_over draws) Goes calls_go.beside (ClosesPeer (plain_over draws)) (λ p r q k. close_goes p r q k) old outcome table new h.0
  acts_fit stun other own (Rollback at token) old sdps packets outcome table new sdps' packets' native h =
      let did = rollback_acts (plain_over draws) token (held_token sdps at token) old sdps outcome table new sdps' h.0 in
      acts_go old new did.acts did.went.dtls (ap (λ x. x.handshake) h.1.connection)
  acts_fit stun other own (ForeignOffer at text) old sdps packets outcome table new sdps' packets' native h = absurd (true≢false (sym native))
  acts_fit stun other own (ForeignAnswer at token text) old sdps packets outcome table new sdps' packets' native h = absurd (true≢false (sym native))
  acts_fit stun other own (Raw at bytes now) old sdps packets outcome table new sdps' packets' native h = absurd (true≢false (sym native))

  -- ---- runs

  fit_at : (at x : Side) (between pair : PlainPair N) → Goes (rtc_at at between) (rtc_at at pair)
      → rtc_at (other_side at) pair ≡ rtc_at (other_side at) between → Goes (rtc_at x between) (rtc_at x pair)
  fit_at Left Left between pair h same = h
  fit_at Left Right between pair h same = same_goes (rtc_at Right between) (rtc_at Right pair) same
  fit_at Right Left between pair h same = same_goes (rtc_at Left between) (rtc_at Left pair) same
  fit_at Right Right between pair h same = h

  run_fit : (stun : List ℕ → Bool) (start : PlainPair N) (past : List (Entry PlainMediaEvent)) (pair : PlainPair N) → are_native (steps_of past) ≡ true
      → Reached (plain_over draws) stun start past pair → ((at : Side) → IsFit (rtc_at at start)) → (at : Side) → IsFit (rtc_at at pair)
  run_fit stun start [] pair native ran h at = subst (λ (x : PlainPair N). IsFit (rtc_at at x)) (sym ran) (h at)
  run_fit stun start (entry ∷ past) pair native ran h at =
      let last = native_entry entry past native in
      fit_at (side_of entry.step) at ran.0 pair
      (acts_fit stun (addr_at (other_side (side_of entry.step)) ran.0) (addr_at (side_of entry.step) ran.0) entry.step (rtc_at (side_of entry.step) ran.0) ran.0.sdps
      ran.0.packets entry.outcome entry.table (rtc_at (side_of entry.step) pair) pair.sdps pair.packets last.1 ran.2.performs.acts)
      ran.2.performs.other (run_fit stun start past ran.0 last.0 ran.1 h at)

  -- the handshake of a new pair is not finished, and its parts are as its acts left them
  pending_none : (h : Handshake) → h ≡ Pending → is_handshake_finished h ≡ true → ⊥
  pending_none h is f = true≢false (sym f ∙ ap is_handshake_finished is)

  new_fit : (start : PlainPair N) → IsNewPair draws start → (at : Side) → IsFit (rtc_at at start)
  new_fit start new at = by at (new_exchanged draws start new)
    where
      of_acts : (x : Side) (acts : PeerActs) → DtlsMoved plain_dtls fresh_dtls acts.dtls (rtc_at x start).core.dtls.instance → IsFit (rtc_at x start)
      of_acts x acts moved = record {
        finished = λ f. absurd (pending_none (rtc_at x start).transport.handshake (new.pending x) f);
        tells = (moved_finishes acts.dtls fresh_dtls (rtc_at x start).core.dtls.instance moved).tells (λ k. absurd k);
      }

      by : (x : Side) → HasExchanged start → IsFit (rtc_at x start)
      by Left exchanged = of_acts Left exchanged.acts.left exchanged.exchange.joined.left_dtls
      by Right exchanged = of_acts Right exchanged.acts.right exchanged.exchange.joined.right_dtls

  -- ---- what is connected

  -- a finished handshake has a role
  role_finished : (phase : Phase) → phase_is_finished phase ≡ true → is_some (role_in phase) ≡ true
  role_finished NoRole f = absurd (true≢false (sym f))
  role_finished AwaitStart f = refl
  role_finished AwaitCert f = refl
  role_finished AwaitHello f = refl
  role_finished AwaitFinish f = refl
  role_finished FinishedActive f = refl
  role_finished FinishedPassive f = refl

  both_are : (a b : Bool) → a ≡ true → b ≡ true → (a && b) ≡ true
  both_are true b e k = k
  both_are false b e k = absurd (true≢false (sym e))

  second_of_three : (a b c : Bool) → (a && b && c) ≡ true → b ≡ true
  second_of_three true true c h = refl
  second_of_three true false c h = absurd (true≢false (sym h))
  second_of_three false b c h = absurd (true≢false (sym h))

  finished_active : (acts other : PeerActs) (p : PlainPolled N) → DtlsMoved plain_dtls fresh_dtls acts.dtls p.core.dtls.instance → ShookHands acts p other
      → phase_is_finished p.core.dtls.instance.phase ≡ true → is_some p.core.dtls.active ≡ true
  finished_active acts other p moved hands finished =
      ap is_some (hands.role ∙ sym (moved_role (dtls_given acts.dtls) acts.dtls fresh_dtls p.core.dtls.instance moved (λ x m. m)))
      ∙ role_finished p.core.dtls.instance.phase finished

  -- at either side
  pub exchanged_active : (pair : PlainPair N) → HasExchanged pair → (at : Side) → phase_is_finished (rtc_at at pair).core.dtls.instance.phase ≡ true
      → is_some (rtc_at at pair).core.dtls.active ≡ true
  exchanged_active pair exchanged Left finished =
      finished_active exchanged.acts.left exchanged.acts.right pair.left exchanged.exchange.joined.left_dtls exchanged.hands.left finished
  exchanged_active pair exchanged Right finished =
      finished_active exchanged.acts.right exchanged.acts.left pair.right exchanged.exchange.joined.right_dtls exchanged.hands.right finished

  handshake_of_connected : (p : PlainPolled N) → is_peer_connected (plain_over draws) p ≡ true → is_handshake_finished p.transport.handshake ≡ true
  handshake_of_connected p h =
      second_of_three (state_is_connected (plain_ice.state p.core.ice)) (is_handshake_finished p.transport.handshake)
      (plain_media_meaning.connected p.core.media) h

  pub connected_sends : (stun : List ℕ → Bool) (start : PlainPair N) (past : List (Entry PlainMediaEvent)) (pair : PlainPair N) → IsNewPair draws start
      → are_native (steps_of past) ≡ true → Reached (plain_over draws) stun start past pair → ConnectedCanSend draws pair
  connected_sends stun start past pair new native ran at h =
      let finished = (run_fit stun start past pair native ran (new_fit start new) at).finished (handshake_of_connected (rtc_at at pair) h) in
      both_are (is_some (rtc_at at pair).core.dtls.active) (phase_is_finished (rtc_at at pair).core.dtls.instance.phase)
      (exchanged_active pair (reached_exchanged draws stun start past pair native ran (new_exchanged draws start new)) at finished) finished

  -- so it is of a run by steps with replies
  pub run_connected : (stun : List ℕ → Bool) (start pair : PlainPair N) (steps : List Step) (replies : List (Reply PlainMediaEvent)) → IsNewPair draws start
      → are_native steps ≡ true → Runs (plain_over draws) stun start steps replies pair → ConnectedCanSend draws pair
  run_connected stun start pair steps replies new native run =
      connected_sends stun start run.past pair new (ap are_native run.steps_are ∙ native) (went_reached draws stun start run.past pair run.went)
