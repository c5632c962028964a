-- What a poll does to the parts of a peer.
use Rattle.std.proofs.Common.{◌≡◌, ◌++◌, append-nil, ◌∷◌, ℕ, Bool, true, false, List, [], Option, Some, Result, Ok, refl, sym, ap, subst}
use Rattle.rtc_sctp_entries.specs.declared.sctp_event.SctpEvent.{SctpEvent}
use Rattle.rtc_sctp_laws.specs.StreamMessages.{StreamMessage}
use Rattle.rtc_peer_core.specs.declared.phase.Phase.{Phase}
use Rattle.rtc_peer_core.specs.declared.phase.Phase.TheVariants.{Alive, Closing, Closed}
use Rattle.rtc_peer_core.specs.declared.rtc_error.RtcError.{RtcError}
use Rattle.rtc_channels.specs.Channels.{AreBelow, AreRising, Channels}
use Rattle.rtc_peer_core.specs.Meanings.{Meanings, PartsLaws}
use Rattle.rtc_peer_transport.specs.declared.event.Event.{Event}
use Rattle.rtc_peer_transport.specs.declared.event.Event.TheVariants as told
use Rattle.rtc_peer_transport.specs.declared.met.Met.{Met}
use Rattle.rtc_peer_transport.specs.declared.met.Met.TheVariants.{Nothing, Again, Transmit, Event as MetEvent, Error}
use Rattle.rtc_peer_transport.specs.declared.output.Output.{Output}
use Rattle.rtc_peer_transport.specs.declared.output.Output.TheVariants as outputs
use Rattle.rtc_peer_transport.specs.declared.polled_peer.PolledPeer.{PolledPeer}
use Rattle.rtc_peer_transport.specs.Closing.{is_closing_complete}
use Rattle.rtc_peer_polling.proofs.Numbering.{poll_numbers}
use Rattle.rtc_peer_polling.specs.StreamStages.{channel_over}
use Rattle.rtc_peer_polling.specs.Walk.{VisitsParts, WaitsIf, AnswersMet, Walks, PollsPeerFrom, PollsPeer, RestsClosed}
use Rattle.rtc_peer_laws.specs.PeerActs.{nothing_came}
use Rattle.rtc_peer_laws.specs.Acts.{PeerDid, PollActs, contents_shown, ShowsData}
use Rattle.rtc_peer_laws.proofs.ActJoins.{SameParts, still_did, did_on}
use Rattle.rtc_peer_laws.proofs.ActedClosing.{beside}
use Rattle.rtc_peer_laws.specs.ChannelStreams.{AreNumbersGiven, IsGone, StreamsWent, WasOpenInBand, Already, Announced, NoNumber}
use Rattle.rtc_peer_laws.proofs.UnsharedRows.{AreApart}
use Rattle.rtc_sctp.specs.Streams.{SctpStreams}
use Rattle.rtc_sctp_laws.specs.MuteGenerations.{StaysMute}
use Rattle.rtc_sctp_laws.specs.UsedCalls.{IsUsedOver}
use Rattle.rtc_sctp_laws.proofs.OpeningEntries.{open_is}
use Rattle.rtc_sctp_laws.specs.RunningStreams.{AreRunning}
use Rattle.rtc_peer_laws.proofs.PolledRows.{polled_on, polled_same}
use Rattle.rtc_peer_laws.proofs.StreamsJoin.{answer_met, given_on, live_kept, same_given, states_same}
use Rattle.rtc_peer_laws.proofs.VisitActs.{contents_met, EventShows, MeetsData, VisitDid, still_visit, repeats_acts}
use Rattle.rtc_peer_laws.proofs.ActedVisits.{visits_act}

-- the numbers of channels rise as they did
abbrev KeepsNumbers : {I D S M N : Type 0} → PolledPeer I D S M N → PolledPeer I D S M N → Type 0
KeepsNumbers p q =
    AreRising 0 p.core.channels.rows → AreBelow p.core.channels.given p.core.channels.rows
    → AreRising 0 q.core.channels.rows × AreBelow q.core.channels.given q.core.channels.rows

module _ {I D S M E X T W N : Type 0} (m : Meanings I D S M E X T W N) (laws : PartsLaws m) where
  -- what was met, as it is answered by a peer with the same parts
  went_as : (r : Met E) (p n q : PolledPeer I D S M N) → q ≡ n → (wrote heard : List StreamMessage) → StreamsWent m p (answer_met r) wrote heard n
      → StreamsWent m p (answer_met r) wrote heard q
  went_as r p n q is wrote heard h = subst (λ (x : PolledPeer I D S M N). StreamsWent m p (answer_met r) wrote heard x) (sym is) h

  opened_idle : (moment : ℕ) (p n x : PolledPeer I D S M N) (s : ℕ) (own : Option ℕ) → x.core.sctp ≡ n.core.sctp → x.core.channels ≡ n.core.channels
      → WasOpenInBand {E = E} s own p (Ok (outputs.Timeout 0)) n → WasOpenInBand {E = E} s own p (Ok (outputs.Timeout moment)) x
  opened_idle moment p n x s own sctp held (Already k) = Already k
  opened_idle moment p n x s own sctp held (Announced k) = absurd k
  opened_idle moment p n x s own sctp held (NoNumber k) = NoNumber (subst (λ (y : Channels). AreNumbersGiven y) (sym held) k)

  -- a timeout
  went_idle : (moment : ℕ) (p n x q : PolledPeer I D S M N) → q ≡ x → x.core.sctp ≡ n.core.sctp → x.core.channels ≡ n.core.channels → (wrote heard : List StreamMessage)
      → StreamsWent m p (Ok (outputs.Timeout 0)) wrote heard n → StreamsWent m p (Ok (outputs.Timeout moment)) wrote heard q
  went_idle moment p n x q is sctp held wrote heard h = subst (λ (y : PolledPeer I D S M N). StreamsWent m p (Ok (outputs.Timeout moment)) wrote heard y) (sym is) (record {
    uses = λ w v s ws hs k. subst (λ (y : SctpStreams S). IsUsedOver m.association s (ws ++ wrote) (hs ++ heard) y) (sym sctp) (h.uses w v s ws hs k);
    lives = λ c s g rising k. live_kept m.association c s g n x (ap (λ (y : SctpStreams S). y.entries) sctp, held, states_same m.association n.core.sctp x.core.sctp sctp) (h.lives c s g rising k);
    live_heard = h.live_heard;
    gone = λ c k. subst (λ (y : Channels). IsGone c y) (sym held) (h.gone c k);
    apart = λ k. subst (λ (y : Channels). AreApart y.rows) (sym held) (h.apart k);
    opens = tt;
    tells = λ v. tt;
    running = λ w k. subst (λ (y : SctpStreams S). AreRunning m.association y) (sym sctp) (h.running w k);
    given =
        given_on p.core.channels.given n.core.channels.given x.core.channels.given h.given
        (same_given n.core.channels.given x.core.channels.given (ap (λ (y : Channels). y.given) held));
    fresh = λ s own k. opened_idle moment p n x s own sctp held (h.fresh s own (open_is s own n.core.sctp.entries x.core.sctp.entries (ap (λ (y : SctpStreams S). y.entries) sctp) k));
    changed =
        polled_on m.association p.core.channels p.core.sctp n.core.channels n.core.sctp x.core.channels x.core.sctp h.changed
        (polled_same m.association n.core.channels n.core.sctp x.core.channels x.core.sctp held sctp);
    mute = λ w v s g k. subst (λ (y : SctpStreams S). StaysMute m.association s g wrote y.association y.entries) (sym sctp) (h.mute w v s g k);
  })

  -- what an answer shows is what was met
  poll_of : (r : Met E) (answer : Result (Output E) RtcError) (p n q : PolledPeer I D S M N) → VisitDid m p r n → contents_shown answer ≡ contents_met r
      → ((told : List SctpEvent) → MeetsData r n.core.channels told → ShowsData answer q.core.channels told) → SameParts m n q
      → ((wrote heard : List StreamMessage) → StreamsWent m p (answer_met r) wrote heard n → StreamsWent m p answer wrote heard q) → KeepsNumbers p q → PollActs m p answer q
  poll_of r answer p n q h contents shows same went numbers = record {
    wrote = h.wrote;
    heard = h.heard;
    did =
        subst (λ (l : List (List ℕ)). PeerDid m nothing_came (p.core.greatest ∷ []) l h.wrote h.heard p q) (sym contents) joined;
    dcep = h.dcep;
    passed = h.passed;
    told = h.told;
    data_is = h.data_is;
    passed_over = h.passed_over;
    shows = shows h.told h.meets;
    streams = went h.wrote h.heard h.streams;
    numbers = λ k. let two = numbers k.0 k.1 in (two.0, two.1, (went h.wrote h.heard h.streams).apart k.2);
  }
    where
      joined : PeerDid m nothing_came (p.core.greatest ∷ []) (contents_met r) h.wrote h.heard p q
      joined =
          subst (λ (l : List (List ℕ)). PeerDid m nothing_came (p.core.greatest ∷ []) l h.wrote h.heard p q) (append-nil (contents_met r))
          (subst (λ (l : List StreamMessage). PeerDid m nothing_came (p.core.greatest ∷ []) (contents_met r ++ []) l h.heard p q) (append-nil h.wrote)
          (subst (λ (l : List StreamMessage). PeerDid m nothing_came (p.core.greatest ∷ []) (contents_met r ++ []) (h.wrote ++ []) l p q) (append-nil h.heard)
          (did_on m laws.association nothing_came (p.core.greatest ∷ []) (contents_met r) [] h.wrote [] h.heard [] p n q h.did
          (still_did m nothing_came (p.core.greatest ∷ []) n q same))))

  answer_as : (r : Met E) (x answer : Result (Output E) RtcError) (p n q : PolledPeer I D S M N) → answer ≡ x → VisitDid m p r n
      → contents_shown x ≡ contents_met r → ((told : List SctpEvent) → MeetsData r n.core.channels told → ShowsData x q.core.channels told)
      → SameParts m n q → ((wrote heard : List StreamMessage) → StreamsWent m p (answer_met r) wrote heard n → StreamsWent m p x wrote heard q) → KeepsNumbers p q → PollActs m p answer q
  answer_as r x answer p n q is h contents shows same went numbers =
      subst (λ (a : Result (Output E) RtcError). PollActs m p a q) (sym is) (poll_of r x p n q h contents shows same went numbers)

  waits_act : (complete : Bool) (p n : PolledPeer I D S M N) (answer : Result (Output E) RtcError) (q : PolledPeer I D S M N) → VisitDid m p Nothing n
      → WaitsIf m complete n answer q → KeepsNumbers p q → PollActs m p answer q
  waits_act true p n answer q h waits numbers =
      answer_as Nothing _ answer p n q waits.0 h refl (λ told none. none) (beside (SameParts m) n _ q waits.1 (refl, refl, refl, refl, refl))
      (went_idle _ p n _ q waits.1 refl refl) numbers
  waits_act false p n answer q h waits numbers =
      answer_as Nothing _ answer p n q waits.0 h refl (λ told none. none) (beside (SameParts m) n _ q waits.1 (refl, refl, refl, refl, refl))
      (went_idle _ p n _ q waits.1 refl refl) numbers

  event_shown : (event : Event E) (n q : PolledPeer I D S M N) → q ≡ n → (told : List SctpEvent) → EventShows event n.core.channels told
      → ShowsData (Ok (outputs.Event event)) q.core.channels told
  event_shown (told.ChannelData message) n q is said h =
      (h.0, (h.1.0, subst (λ (x : PolledPeer I D S M N). channel_over h.0 x.core.channels ≡ Some message.id) (sym is) h.1.1))
  event_shown event n q is said h = h

  met_acts : (r : Met E) (p n : PolledPeer I D S M N) (answer : Result (Output E) RtcError) (q : PolledPeer I D S M N) → VisitDid m p r n
      → AnswersMet m r n answer q → KeepsNumbers p q → PollActs m p answer q
  met_acts Nothing p n answer q h answers numbers = waits_act (is_closing_complete m n) p n answer q h answers numbers
  met_acts Again p n answer q h answers numbers = absurd answers
  met_acts (Transmit transmit) p n answer q h answers numbers =
      answer_as (Transmit transmit) _ answer p n q answers.0 h refl (λ told none. none) (beside (SameParts m) n n q answers.1 (refl, refl, refl, refl, refl)) (went_as (Transmit transmit) p n q answers.1) numbers
  met_acts (MetEvent event) p n answer q h answers numbers =
      answer_as (MetEvent event) _ answer p n q answers.0 h refl (event_shown event n q answers.1)
      (beside (SameParts m) n n q answers.1 (refl, refl, refl, refl, refl)) (went_as (MetEvent event) p n q answers.1) numbers
  met_acts (Error error) p n answer q h answers numbers =
      answer_as (Error error) _ answer p n q answers.0 h refl (λ told none. none) (beside (SameParts m) n n q answers.1 (refl, refl, refl, refl, refl)) (went_as (Error error) p n q answers.1) numbers

  walk_acts : (p : PolledPeer I D S M N) (answer : Result (Output E) RtcError) (q : PolledPeer I D S M N) → Walks m p answer q → KeepsNumbers p q → PollActs m p answer q
  walk_acts p answer q h numbers =
      met_acts h.met p h.visited answer q (repeats_acts m laws.association (VisitsParts m) (visits_act m laws) p h.met h.visited h.by_visits) h.by_answer numbers

  rest_acts : (p : PolledPeer I D S M N) (answer : Result (Output E) RtcError) (q : PolledPeer I D S M N) → RestsClosed p answer q → KeepsNumbers p q → PollActs m p answer q
  rest_acts p answer q h numbers =
      answer_as Nothing _ answer p p q h.0
      (still_visit m Nothing Nothing p p p refl refl (refl, λ held. refl, tt) ((refl, refl, refl, refl, refl), refl, refl)) refl (λ told none. none)
      (beside (SameParts m) p _ q h.1 (refl, refl, refl, refl, refl)) (went_idle _ p p _ q h.1 refl refl) numbers

  polls_from : (phase : Phase) (p : PolledPeer I D S M N) (answer : Result (Output E) RtcError) (q : PolledPeer I D S M N)
      → PollsPeerFrom m phase p answer q → KeepsNumbers p q → PollActs m p answer q
  polls_from Alive p answer q h numbers = walk_acts p answer q h numbers
  polls_from Closing p answer q h numbers = walk_acts p answer q h numbers
  polls_from Closed p answer q h numbers = rest_acts p answer q h numbers

  pub poll_acts : (p : PolledPeer I D S M N) (answer : Result (Output E) RtcError) (q : PolledPeer I D S M N) → PollsPeer m p answer q → PollActs m p answer q
  poll_acts p answer q h =
      let numbers = poll_numbers m p answer q h in polls_from p.core.phase p answer q h (λ rising below. (numbers.rising below rising, numbers.below below))
