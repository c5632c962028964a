-- What stages of a poll leave of streams and live channels, one after the other.
use Rattle.std.proofs.Common.{◌≡◌, ◌≤◌, ◌-◌, ◌^◌, ◌++◌, ◌∷◌, inl, ℕ, Bool, true, false, true≢false, Option, List, [], append-nil, append_assoc, Result, Ok, Err, refl, sym, ap, subst, ◌∙◌, arith}
use Rattle.std.specs.declared.alloc.AllocError.{AllocError}
use Rattle.rtc_parts.specs.AssociationActs.{AssociationAct, Given, Moved}
use Rattle.rtc_parts.specs.AssociationLaws.{AssociationLaws}
use Rattle.rtc_parts.specs.AssociationMeaning.{AssociationMeaning}
use Rattle.rtc_sctp_entries.specs.declared.stream_entry.StreamEntry.{StreamEntry}
use Rattle.rtc_sctp.specs.declared.rtc_sctp_state.RtcSctpState.{RtcSctpState}
use Rattle.rtc_sctp.specs.declared.rtc_sctp_state.RtcSctpState.TheVariants.{Uninited, AwaitRemoteAssociation, AwaitAssociationEstablished, Established}
use Rattle.rtc_sctp.specs.Streams.{SctpStreams, is_established}
use Rattle.rtc_sctp.specs.Calls.{InputIf, state_on_input}
use Rattle.rtc_sctp_laws.specs.StreamMessages.{StreamMessage}
use Rattle.rtc_sctp_laws.proofs.AsideActs.{AsideDid, aside_act}
use Rattle.rtc_sctp_laws.proofs.ClosingPolls.{started_moved}
use Rattle.rtc_sctp_laws.specs.GenerationLaws.{GenerationLaws}
use Rattle.rtc_sctp_laws.specs.StreamUses.{HasOpenInBand, WereOpened, entries_of, messages_of, IsUsed}
use Rattle.rtc_sctp_laws.specs.MuteGenerations.{IsMute}
use Rattle.rtc_sctp_laws.proofs.MuteActs.{acts_mute, mute_on}
use Rattle.rtc_sctp_laws.proofs.CallUses.{acts_use}
use Rattle.rtc_sctp_laws.proofs.GenerationMessages.{messages-append}
use Rattle.rtc_sctp_laws.proofs.LivingEntries.{live_is, are_join}
use Rattle.rtc_sctp_laws.proofs.OpeningEntries.{open_is}
use Rattle.rtc_sctp_laws.specs.Contents.{contents_of}
use Rattle.rtc_sctp_laws.proofs.ContentLemmas.{contents-append}
use Rattle.rtc_sctp_laws.proofs.RunningPolls.{StayEstablished, input_stays, stay_same}
use Rattle.rtc_channels.specs.Channels.{AreRising, Channel, Channels}
use Rattle.rtc_peer_core.specs.declared.rtc_error.RtcError.{RtcError}
use Rattle.rtc_peer_core.specs.declared.rtc_error.RtcError.TheVariants.{Alloc}
use Rattle.rtc_peer_core.specs.Meanings.{Meanings}
use Rattle.rtc_peer_transport.specs.declared.event.Event.{Event}
use Rattle.rtc_peer_transport.specs.declared.event.Event.TheVariants.{ChannelOpen, ChannelData, ChannelClose}
use Rattle.rtc_peer_transport.specs.declared.met.Met.{Met}
use Rattle.rtc_peer_transport.specs.declared.met.Met.TheVariants.{Nothing, Again, Transmit, Event as MetEvent, Error}
use Rattle.rtc_peer_transport.specs.declared.output.Output.{Output}
use Rattle.rtc_peer_transport.specs.declared.output.Output.TheVariants as outputs
use Rattle.rtc_peer_transport.specs.declared.polled_peer.PolledPeer.{PolledPeer}
use Rattle.rtc_peer_polling.specs.StreamStages.{channel_over}
use Rattle.rtc_peer_laws.proofs.ChangedRows.{no_acts}
use Rattle.rtc_peer_laws.proofs.PolledRows.{polled_on, polled_stay}
use Rattle.rtc_peer_laws.proofs.UnsharedRows.{AreApart}
use Rattle.rtc_peer_laws.proofs.ActedClosing.{BesideIce, BesideDtls, BesideMedia}
use Rattle.rtc_peer_laws.specs.RowsChanged.{OnlyActs, RowsPolled, begun_as}
use Rattle.rtc_peer_laws.specs.ChannelStreams.{IsGone, IsLiveChannel, LeavesLiveBy, LeavesLiveChannel, UnlessLacking, IsUsedStream, OpensByAnswer, TellsByAnswer, StreamsWent, WasOpenInBand, Already, Announced, NoNumber}

-- what is met, as a poll answers it
abbrev pub answer_met : {E : Type 0} → Met E → Result (Output E) RtcError
answer_met Nothing = Ok (outputs.Timeout 0)
answer_met Again = Ok (outputs.Timeout 0)
answer_met (Transmit transmit) = Ok (outputs.Transmit transmit)
answer_met (MetEvent event) = Ok (outputs.Event event)
answer_met (Error error) = Err error

-- no channel is told to be open
abbrev pub TellsNoOpening : {E : Type 0} → Result (Output E) RtcError → Type 0
TellsNoOpening (Ok (outputs.Event (ChannelOpen id label))) = ⊥
TellsNoOpening answer = Unit {0}

-- an association that was established stays so, and acts were done to it by which no event was told
pub record StatesStay {S : Type 0} (m : AssociationMeaning S) (p q : SctpStreams S) : Type 0 where
  pub established : StayEstablished p q
  pub only : OnlyActs m p q

pub states_by : {S : Type 0} (m : AssociationMeaning S) (p n q : SctpStreams S) → q ≡ n → n.association ≡ p.association → n.entries ≡ p.entries
    → begun_as n ≡ begun_as p → StatesStay m p q
states_by {S} m p n q is association entries begun = record {
  established = stay_same p q (ap (λ (x : RtcSctpState × Bool). x.0) (ap begun_as is ∙ begun));
  only = no_acts m p n q is association entries begun;
}

pub states_same : {S : Type 0} (m : AssociationMeaning S) (p q : SctpStreams S) → q ≡ p → StatesStay m p q
states_same m p q same = states_by m p p q same refl refl refl

-- a packet of the other end begins nothing, and establishes nothing
input_uninited : (state : RtcSctpState) → state_on_input state ≡ Uninited → state ≡ Uninited
input_uninited Uninited e = refl
input_uninited AwaitRemoteAssociation e = absurd (let k : AwaitAssociationEstablished ≡ Uninited = e in cc)
input_uninited AwaitAssociationEstablished e = e
input_uninited Established e = e

input_established : (state : RtcSctpState) → is_established (state_on_input state) ≡ true → is_established state ≡ true
input_established Uninited e = e
input_established AwaitRemoteAssociation e = e
input_established AwaitAssociationEstablished e = e
input_established Established e = e

pub input_states : {S : Type 0} (m : AssociationMeaning S) (started : Bool) (now : ℕ) (bytes : List ℕ) (p : SctpStreams S)
    (r : Result (Unit {0}) AllocError) (q : SctpStreams S) → m.started p.association ≡ started → InputIf m started now bytes p r q → StatesStay m p q
input_states m false now bytes p r q is h = states_same m p q h.1
input_states {S} m true now bytes p r q is h =
    let state : q.state ≡ state_on_input p.state = ap (λ (x : SctpStreams S). x.state) h.1 in
    let did : AsideDid m p.association q.association = aside_act m (Given bytes) p.association q.association (now, (r, h.0)) refl refl in
    record {
      established = input_stays m true now bytes p r q h;
      only = record {
        acts = did.acts;
        went = did.went;
        untold = did.untold;
        aside = did.aside;
        entries = ap (λ (x : SctpStreams S). x.entries) h.1;
        begun = λ e. input_uninited p.state (sym state ∙ e);
        lasts = λ e. inl (input_established p.state (ap is_established (sym state) ∙ e));
        side = λ e. ap (λ (x : SctpStreams S). x.client) h.1;
        ungiven = λ e. absurd (true≢false (sym is ∙ e));
      };
    }

-- the entries of streams stay, and so do the channels; what was established is
abbrev pub KeepsStreams : {I D S M N : Type 0} → AssociationMeaning S → PolledPeer I D S M N → PolledPeer I D S M N → Type 0
KeepsStreams m p q =
    (q.core.sctp.entries ≡ p.core.sctp.entries) × (q.core.channels ≡ p.core.channels) × StatesStay m p.core.sctp q.core.sctp

pub ice_kept : {I D S M N : Type 0} (m : AssociationMeaning S) (p q : PolledPeer I D S M N) → BesideIce p q → KeepsStreams m p q
ice_kept m p q kept = (ap (λ s. s.entries) kept.1, kept.4, states_same m p.core.sctp q.core.sctp kept.1)

pub dtls_kept : {I D S M N : Type 0} (m : AssociationMeaning S) (p q : PolledPeer I D S M N) → BesideDtls p q → KeepsStreams m p q
dtls_kept m p q kept = (ap (λ s. s.entries) kept.1, kept.4, states_same m p.core.sctp q.core.sctp kept.1)

pub media_kept : {I D S M N : Type 0} (m : AssociationMeaning S) (p q : PolledPeer I D S M N) → BesideMedia p q → KeepsStreams m p q
media_kept m p q kept = (ap (λ s. s.entries) kept.2, kept.4, states_same m p.core.sctp q.core.sctp kept.2)

pub unless_of : {E : Type 0} (answer : Result (Output E) RtcError) (T : Type 0) → T → UnlessLacking answer T
unless_of (Ok output) T h = h
unless_of (Err Alloc) T h = tt
unless_of (Err error) T h = h

-- what follows from what holds unless memory is lacking
pub unless_map : {E : Type 0} (answer : Result (Output E) RtcError) (A B : Type 0) → (A → B) → UnlessLacking answer A → UnlessLacking answer B
unless_map (Ok output) A B f h = f h
unless_map (Err Alloc) A B f h = tt
unless_map (Err error) A B f h = f h

pub same_given : (n k : ℕ) → k ≡ n → n ≤ k
same_given n k e = omega (arith, e)

pub given_on : (a b c : ℕ) → a ≤ b → b ≤ c → a ≤ c
given_on a b c h k = omega (arith, h, k)

leaves_event : {I D S M E N : Type 0} (event : Event E) (c s g : ℕ) (q : PolledPeer I D S M N) → IsLiveChannel c s g q → LeavesLiveBy event c s g q
leaves_event (ChannelClose id) c s g q h = inl h
leaves_event event c s g q h = h

pub leaves_live : {I D S M E N : Type 0} (answer : Result (Output E) RtcError) (c s g : ℕ) (q : PolledPeer I D S M N) → IsLiveChannel c s g q
    → LeavesLiveChannel answer c s g q
leaves_live (Ok (outputs.Event event)) c s g q h = leaves_event event c s g q h
leaves_live (Ok (outputs.Transmit transmit)) c s g q h = h
leaves_live (Ok (outputs.Timeout moment)) c s g q h = h
leaves_live (Err Alloc) c s g q h = tt
leaves_live (Err error) c s g q h = h

-- a live channel, over the same entries and channels
pub live_kept : {I D S M N : Type 0} (m : AssociationMeaning S) (c s g : ℕ) (p q : PolledPeer I D S M N) → KeepsStreams m p q
    → IsLiveChannel c s g p → IsLiveChannel c s g q
live_kept m c s g p q kept h =
    (ap (λ (held : Channels). channel_over s held) kept.1 ∙ h.0, live_is s g p.core.sctp.entries q.core.sctp.entries kept.0 h.1)

module _ {I D S M E X T W N : Type 0} (m : Meanings I D S M E X T W N) where
  pub opens_none : (answer : Result (Output E) RtcError) (p : PolledPeer I D S M N) (wrote heard : List StreamMessage) (q : PolledPeer I D S M N)
      → TellsNoOpening answer → OpensByAnswer m answer p wrote heard q
  opens_none (Ok (outputs.Event (ChannelOpen id label))) p wrote heard q h = absurd h
  opens_none (Ok (outputs.Event event)) p wrote heard q h = tt
  opens_none (Ok (outputs.Transmit transmit)) p wrote heard q h = tt
  opens_none (Ok (outputs.Timeout moment)) p wrote heard q h = tt
  opens_none (Err error) p wrote heard q h = tt

  -- acts by which no message was written or read
  pub streams_stay : (answer : Result (Output E) RtcError) (p q : PolledPeer I D S M N) (acts : List AssociationAct)
      → Moved m.association p.core.sctp.association acts q.core.sctp.association → KeepsStreams m.association p q → TellsNoOpening answer
      → TellsByAnswer m answer [] q → StreamsWent m p answer [] [] q
  streams_stay answer p q acts went kept none tells = record {
    uses = λ w v s ws hs h.
        let left = acts_use m.association v w acts p.core.sctp.association q.core.sctp.association p.core.sctp.entries s ws hs went h in
        let over = subst (λ (l : List StreamEntry). IsUsed m.association s ws hs q.core.sctp.association l) (sym kept.0) left in
        unless_of answer (IsUsedStream m s (ws ++ []) (hs ++ []) q)
        (subst (λ (l : List StreamMessage). IsUsedStream m s l (hs ++ []) q) (sym (append-nil ws))
        (subst (λ (l : List StreamMessage). IsUsedStream m s ws l q) (sym (append-nil hs)) over));
    lives = λ c s g rising h. leaves_live answer c s g q (live_kept m.association c s g p q kept h);
    live_heard = λ c s g rising h. refl;
    gone = λ c h. subst (λ (held : Channels). IsGone c held) (sym kept.1) h;
    apart = λ h. subst (λ (held : Channels). AreApart held.rows) (sym kept.1) h;
    opens = opens_none answer p [] [] q none;
    tells = λ v. tells;
    running = λ w k. (started_moved m.association w acts p.core.sctp.association q.core.sctp.association k.0 went, kept.2.established k.1);
    given = same_given p.core.channels.given q.core.channels.given (ap (λ (held : Channels). held.given) kept.1);
    fresh =
        unless_of answer ((s : ℕ) (own : Option ℕ) → HasOpenInBand s own q.core.sctp.entries → WasOpenInBand s own p answer q)
        (λ s own h. Already (open_is s own p.core.sctp.entries q.core.sctp.entries kept.0 h));
    changed =
        unless_of answer (RowsPolled m.association p.core.channels p.core.sctp q.core.channels q.core.sctp)
        (polled_stay m.association p.core.channels p.core.sctp q.core.channels q.core.sctp kept.1 kept.2.only);
    mute = λ w v s g h. record {
      none = refl;
      left =
          subst (λ (l : List StreamEntry). IsMute m.association s g q.core.sctp.association l) (sym kept.0)
          (acts_mute m.association w v s g acts p.core.sctp.association q.core.sctp.association p.core.sctp.entries went h);
    };
  }

  -- what was open behind a stage that told nothing
  open_before : (answer : Result (Output E) RtcError) (moment : ℕ) (p b q : PolledPeer I D S M N) (s : ℕ) (own : Option ℕ)
      → b.core.channels.given ≤ q.core.channels.given → WasOpenInBand {E = E} s own p (Ok (outputs.Timeout moment)) b → WasOpenInBand s own p answer q
  open_before answer moment p b q s own given (Already h) = Already h
  open_before answer moment p b q s own given (Announced h) = absurd h
  open_before answer moment p b q s own given (NoNumber h) = NoNumber (given_on (2 ^ 64 - 1) b.core.channels.given q.core.channels.given h given)

  open_through : (answer : Result (Output E) RtcError) (moment : ℕ) (p b q : PolledPeer I D S M N) (s : ℕ) (own : Option ℕ)
      → b.core.channels.given ≤ q.core.channels.given
      → (HasOpenInBand s own b.core.sctp.entries → WasOpenInBand {E = E} s own p (Ok (outputs.Timeout moment)) b) → WasOpenInBand s own b answer q
      → WasOpenInBand s own p answer q
  open_through answer moment p b q s own given first (Already h) = open_before answer moment p b q s own given (first h)
  open_through answer moment p b q s own given first (Announced h) = Announced h
  open_through answer moment p b q s own given first (NoNumber h) = NoNumber h

  -- an opening behind what was met before
  opens_on : (answer : Result (Output E) RtcError) (p b : PolledPeer I D S M N) (first told more heard : List StreamMessage) (q : PolledPeer I D S M N)
      → (AssociationLaws m.association → GenerationLaws m.association → (s : ℕ) (ws hs : List StreamMessage) → IsUsedStream m s ws hs p
      → IsUsedStream m s (ws ++ first) (hs ++ told) b)
      → ((c s g : ℕ) → AreRising 0 p.core.channels.rows → IsLiveChannel c s g p → IsLiveChannel c s g b)
      → (AreRising 0 p.core.channels.rows → AreRising 0 b.core.channels.rows) → OpensByAnswer m answer b more heard q → OpensByAnswer m answer p (first ++ more) (told ++ heard) q
  opens_on (Ok (outputs.Event (ChannelOpen id label))) p b first told more heard q goes lives keeps h =
      let gen = m.association.generation q.core.sctp.association h.stream in
      let own = entries_of h.stream q.core.sctp.entries in
      record {
        stream = h.stream;
        over = h.over;
        running = h.running;
        anew = λ c g rising live. h.anew c g (keeps rising) (lives c h.stream g rising live);
        opened = λ w v ws hs used.
            subst (λ (l : List StreamMessage). WereOpened own gen (messages_of h.stream gen l) (messages_of h.stream gen (hs ++ (told ++ heard)))) (append_assoc ws first more)
            (subst (λ (l : List StreamMessage). WereOpened own gen (messages_of h.stream gen ((ws ++ first) ++ more)) (messages_of h.stream gen l)) (append_assoc hs told heard)
            (h.opened w v (ws ++ first) (hs ++ told) (goes w v h.stream ws hs used)));
      }
  opens_on (Ok (outputs.Event event)) p b first told more heard q goes lives keeps h = tt
  opens_on (Ok (outputs.Transmit transmit)) p b first told more heard q goes lives keeps h = tt
  opens_on (Ok (outputs.Timeout moment)) p b first told more heard q goes lives keeps h = tt
  opens_on (Err error) p b first told more heard q goes lives keeps h = tt

  -- a message that is told behind what was read before
  tells_on : (answer : Result (Output E) RtcError) (told heard : List StreamMessage) (q : PolledPeer I D S M N) → TellsByAnswer m answer heard q
      → TellsByAnswer m answer (told ++ heard) q
  tells_on (Ok (outputs.Event (ChannelData message))) told heard q h =
      let gen = m.association.generation q.core.sctp.association h.stream in
      let first : List (Bool × List ℕ) = contents_of (messages_of h.stream gen told) in
      record {
        stream = h.stream;
        over = h.over;
        before = first ++ h.before;
        read_is =
            ap contents_of (messages-append h.stream gen told heard)
            ∙ contents-append (messages_of h.stream gen told) (messages_of h.stream gen heard)
            ∙ ap (λ (l : List (Bool × List ℕ)). first ++ l) h.read_is
            ∙ sym (append_assoc first h.before ((message.binary, message.bytes) ∷ []));
      }
  tells_on (Ok (outputs.Event event)) told heard q h = tt
  tells_on (Ok (outputs.Transmit transmit)) told heard q h = tt
  tells_on (Ok (outputs.Timeout moment)) told heard q h = tt
  tells_on (Err error) told heard q h = tt

  -- a stage that told nothing, and what follows
  pub streams_on : (answer : Result (Output E) RtcError) (moment : ℕ) (p b q : PolledPeer I D S M N) (first told more heard : List StreamMessage)
      → b.core.channels.rows ≡ p.core.channels.rows → StreamsWent m p (Ok (outputs.Timeout moment)) first told b → StreamsWent m b answer more heard q
      → StreamsWent m p answer (first ++ more) (told ++ heard) q
  streams_on answer moment p b q first told more heard rows x y = record {
    uses = λ w v s ws hs h.
        subst (λ (l : List StreamMessage). UnlessLacking answer (IsUsedStream m s l (hs ++ (told ++ heard)) q)) (append_assoc ws first more)
        (subst (λ (l : List StreamMessage). UnlessLacking answer (IsUsedStream m s ((ws ++ first) ++ more) l q)) (append_assoc hs told heard)
        (y.uses w v s (ws ++ first) (hs ++ told) (x.uses w v s ws hs h)));
    lives = λ c s g rising h. y.lives c s g (rising_kept rising) (x.lives c s g rising h);
    live_heard = λ c s g rising h. are_join s g told heard (x.live_heard c s g rising h) (y.live_heard c s g (rising_kept rising) (x.lives c s g rising h));
    gone = λ c h. y.gone c (x.gone c h);
    apart = λ h. y.apart (x.apart h);
    opens =
        opens_on answer p b first told more heard q (λ w v s ws hs h. x.uses w v s ws hs h) (λ c s g rising h. x.lives c s g rising h) rising_kept y.opens;
    tells = λ v. tells_on answer told heard q (y.tells v);
    running = λ w k. y.running w (x.running w k);
    given = given_on p.core.channels.given b.core.channels.given q.core.channels.given x.given y.given;
    fresh =
        unless_map answer ((s : ℕ) (own : Option ℕ) → HasOpenInBand s own q.core.sctp.entries → WasOpenInBand s own b answer q)
        ((s : ℕ) (own : Option ℕ) → HasOpenInBand s own q.core.sctp.entries → WasOpenInBand s own p answer q)
        (λ after s own h. open_through answer moment p b q s own y.given (x.fresh s own) (after s own h)) y.fresh;
    changed =
        unless_map answer (RowsPolled m.association b.core.channels b.core.sctp q.core.channels q.core.sctp)
        (RowsPolled m.association p.core.channels p.core.sctp q.core.channels q.core.sctp)
        (λ after.
        polled_on m.association p.core.channels p.core.sctp b.core.channels b.core.sctp q.core.channels q.core.sctp x.changed after) y.changed;
    mute = λ w v s g h.
        mute_on m.association s g first more b.core.sctp.association q.core.sctp.association b.core.sctp.entries q.core.sctp.entries (x.mute w v s g h) (y.mute w v s g);
  }
    where
      rising_kept : AreRising 0 p.core.channels.rows → AreRising 0 b.core.channels.rows
      rising_kept h = subst (λ (l : List Channel). AreRising 0 l) (sym rows) h
