-- What stages of a poll did to the parts of a peer, one after the other.
use Rattle.std.proofs.Common.{◌≡◌, ◌++◌, ◌∷◌, ℕ, zero, suc, true, List, [], append-nil, append_assoc, Some, None, Ok, refl, sym, ap, subst, ◌∙◌}
use Rattle.rtc_parts.specs.AssociationLaws.{AssociationLaws}
use Rattle.rtc_sctp_entries.specs.declared.sctp_event.SctpEvent.{SctpEvent}
use Rattle.rtc_sctp_entries.specs.declared.sctp_event.SctpEvent.TheVariants as event
use Rattle.rtc_sctp_laws.specs.StreamMessages.{StreamMessage, are_dcep, shown_messages}
use Rattle.rtc_sctp_laws.proofs.MessageLemmas.{dcep_join, shown-append}
use Rattle.rtc_channels.specs.Channels.{Channel, Channels}
use Rattle.rtc_peer_core.specs.Meanings.{Meanings}
use Rattle.rtc_peer_transport.specs.declared.event.Event.{Event}
use Rattle.rtc_peer_transport.specs.declared.event.Event.TheVariants.{ChannelData}
use Rattle.rtc_peer_transport.specs.declared.met.Met.{Met}
use Rattle.rtc_peer_transport.specs.declared.met.Met.TheVariants.{Nothing, Again, Transmit, Event as MetEvent, Error}
use Rattle.rtc_peer_transport.specs.declared.output.Output.TheVariants as outputs
use Rattle.rtc_peer_transport.specs.declared.polled_peer.PolledPeer.{PolledPeer}
use Rattle.rtc_peer_transport.specs.Stages.{Stage, FollowedBy, Stopped, WentOn, StartsOver, RepeatsStage}
use Rattle.rtc_peer_polling.specs.StreamStages.{channel_over}
use Rattle.rtc_peer_laws.specs.PeerActs.{nothing_came}
use Rattle.rtc_peer_laws.specs.Acts.{PeerDid, ArePassed}
use Rattle.rtc_peer_laws.specs.ChannelStreams.{StreamsWent, TellsByAnswer}
use Rattle.rtc_peer_laws.proofs.ActJoins.{SameParts, still_did, did_on}
use Rattle.rtc_peer_laws.proofs.StreamsJoin.{answer_met, TellsNoOpening, KeepsStreams, states_same, streams_stay, streams_on}

-- the contents of the datagram that is met
abbrev pub contents_met : {E : Type 0} → Met E → List (List ℕ)
contents_met Nothing = []
contents_met Again = []
contents_met (Transmit transmit) = transmit.contents ∷ []
contents_met (MetEvent event) = []
contents_met (Error error) = []

-- the data that is met
abbrev pub EventShows : {E : Type 0} → Event E → Channels → List SctpEvent → Type 0
EventShows (ChannelData message) held told =
    (stream : ℕ) × ((told ≡ event.Data stream message.binary message.bytes ∷ []) × (channel_over stream held ≡ Some message.id))
EventShows event held told = told ≡ []

abbrev pub MeetsData : {E : Type 0} → Met E → Channels → List SctpEvent → Type 0
MeetsData Nothing held told = told ≡ []
MeetsData Again held told = told ≡ []
MeetsData (Transmit transmit) held told = told ≡ []
MeetsData (MetEvent event) held told = EventShows event held told
MeetsData (Error error) held told = told ≡ []

-- the rows of channels are the same where nothing was met, or the walk starts over
abbrev pub KeepsRows : {E : Type 0} → Met E → Channels → Channels → Type 0
KeepsRows Nothing held held' = held'.rows ≡ held.rows
KeepsRows Again held held' = held'.rows ≡ held.rows
KeepsRows (Transmit transmit) held held' = Unit {0}
KeepsRows (MetEvent event) held held' = Unit {0}
KeepsRows (Error error) held held' = Unit {0}

rows_kept : {E : Type 0} (r : Met E) (a b c : Channels) → b.rows ≡ a.rows → KeepsRows r b c → KeepsRows r a c
rows_kept Nothing a b c is h = h ∙ is
rows_kept Again a b c is h = h ∙ is
rows_kept (Transmit transmit) a b c is h = tt
rows_kept (MetEvent event) a b c is h = tt
rows_kept (Error error) a b c is h = tt

passed_with : (a b : Channels) (events : List SctpEvent) → b.rows ≡ a.rows → ArePassed b events → ArePassed a events
passed_with a b [] is h = tt
passed_with a b (event.Data stream binary bytes ∷ events) is h =
    (subst (λ (l : List Channel). channel_over stream (record a { rows = l }) ≡ None) is h.0, passed_with a b events is h.1)
passed_with a b (event.Transmit packets ∷ events) is h = absurd h
passed_with a b (event.Open stream label ∷ events) is h = absurd h
passed_with a b (event.Close stream pending ∷ events) is h = absurd h
passed_with a b (event.StreamResetComplete stream ∷ events) is h = absurd h
passed_with a b (event.BufferedAmountLow stream ∷ events) is h = absurd h
passed_with a b (event.AssociationLost ∷ events) is h = absurd h

passed-append : (a : Channels) (xs ys : List SctpEvent) → ArePassed a xs → ArePassed a ys → ArePassed a (xs ++ ys)
passed-append a [] ys h k = k
passed-append a (event.Data stream binary bytes ∷ xs) ys h k = (h.0, passed-append a xs ys h.1 k)
passed-append a (event.Transmit packets ∷ xs) ys h k = absurd h
passed-append a (event.Open stream label ∷ xs) ys h k = absurd h
passed-append a (event.Close stream pending ∷ xs) ys h k = absurd h
passed-append a (event.StreamResetComplete stream ∷ xs) ys h k = absurd h
passed-append a (event.BufferedAmountLow stream ∷ xs) ys h k = absurd h
passed-append a (event.AssociationLost ∷ xs) ys h k = absurd h

no_event : (e : SctpEvent) → [] ≡ e ∷ [] → ⊥
no_event e h = cc

module _ {I D S M E X T W N : Type 0} (m : Meanings I D S M E X T W N) where
  -- a stage acted, by what it met
  pub record VisitDid (p : PolledPeer I D S M N) (r : Met E) (q : PolledPeer I D S M N) : Type 0 where
    pub wrote : List StreamMessage
    pub heard : List StreamMessage
    pub did : PeerDid m nothing_came (p.core.greatest ∷ []) (contents_met r) wrote heard p q
    pub dcep : are_dcep wrote ≡ true
    pub passed : List SctpEvent
    pub told : List SctpEvent
    pub data_is : shown_messages heard ≡ passed ++ told
    pub passed_over : ArePassed p.core.channels passed
    pub meets : MeetsData r q.core.channels told
    pub greatest : q.core.greatest ≡ p.core.greatest
    pub rows : KeepsRows r p.core.channels q.core.channels
    pub streams : StreamsWent m p (answer_met r) wrote heard q

  -- the same where nothing is shown, and more follows
  pub record QuietDid (p q : PolledPeer I D S M N) : Type 0 where
    pub wrote : List StreamMessage
    pub heard : List StreamMessage
    pub did : PeerDid m nothing_came (p.core.greatest ∷ []) [] wrote heard p q
    pub dcep : are_dcep wrote ≡ true
    pub data_passed : ArePassed p.core.channels (shown_messages heard)
    pub greatest : q.core.greatest ≡ p.core.greatest
    pub rows : q.core.channels.rows ≡ p.core.channels.rows
    pub streams : StreamsWent m p (Ok (outputs.Timeout 0)) wrote heard q

  passed_all : (p : PolledPeer I D S M N) (heard : List StreamMessage) (passed told : List SctpEvent) → shown_messages heard ≡ passed ++ told → told ≡ []
      → ArePassed p.core.channels passed → ArePassed p.core.channels (shown_messages heard)
  passed_all p heard passed told is none h =
      subst (λ (l : List SctpEvent). ArePassed p.core.channels l) (sym (is ∙ ap (λ l. passed ++ l) none ∙ append-nil passed)) h

  pub quiet_nothing : (p q : PolledPeer I D S M N) → VisitDid p Nothing q → QuietDid p q
  quiet_nothing p q h = record {
    wrote = h.wrote;
    heard = h.heard;
    did = h.did;
    dcep = h.dcep;
    data_passed = passed_all p h.heard h.passed h.told h.data_is h.meets h.passed_over;
    greatest = h.greatest;
    rows = h.rows;
    streams = record { uses = h.streams.uses; lives = h.streams.lives; live_heard = h.streams.live_heard; gone = h.streams.gone; apart = h.streams.apart; opens = tt; tells = λ v. tt; running = h.streams.running; given = h.streams.given; fresh = h.streams.fresh; changed = h.streams.changed; mute = h.streams.mute };
  }

  pub quiet_again : (p q : PolledPeer I D S M N) → VisitDid p Again q → QuietDid p q
  quiet_again p q h = record {
    wrote = h.wrote;
    heard = h.heard;
    did = h.did;
    dcep = h.dcep;
    data_passed = passed_all p h.heard h.passed h.told h.data_is h.meets h.passed_over;
    greatest = h.greatest;
    rows = h.rows;
    streams = record { uses = h.streams.uses; lives = h.streams.lives; live_heard = h.streams.live_heard; gone = h.streams.gone; apart = h.streams.apart; opens = tt; tells = λ v. tt; running = h.streams.running; given = h.streams.given; fresh = h.streams.fresh; changed = h.streams.changed; mute = h.streams.mute };
  }

  pub quiet_none : (p : PolledPeer I D S M N) → QuietDid p p
  quiet_none p = record {
    wrote = [];
    heard = [];
    did = still_did m nothing_came (p.core.greatest ∷ []) p p (refl, refl, refl, refl, refl);
    dcep = refl;
    data_passed = tt;
    greatest = refl;
    rows = refl;
    streams = streams_stay m (Ok (outputs.Timeout 0)) p p [] refl (refl, refl, states_same m.association p.core.sctp p.core.sctp refl) tt tt;
  }

  -- what is met shows no message of a channel
  pub none_told : (r : Met E) (held : Channels) (heard : List StreamMessage) (q : PolledPeer I D S M N) → MeetsData r held []
      → TellsByAnswer m (answer_met r) heard q
  none_told Nothing held heard q h = tt
  none_told Again held heard q h = tt
  none_told (Transmit transmit) held heard q h = tt
  none_told (MetEvent (ChannelData message)) held heard q h = absurd (no_event (event.Data h.0 message.binary message.bytes) h.1.0)
  none_told (MetEvent event) held heard q h = tt
  none_told (Error error) held heard q h = tt

  -- what was met is another's, and so is the peer
  pub visit_is : (x r : Met E) (p q : PolledPeer I D S M N) → r ≡ x → VisitDid p x q → VisitDid p r q
  visit_is x r p q is h = subst (λ (y : Met E). VisitDid p y q) (sym is) h

  -- acts by which no message was written or read
  pub plain_visit : (r : Met E) (p q : PolledPeer I D S M N) → PeerDid m nothing_came (p.core.greatest ∷ []) (contents_met r) [] [] p q
      → MeetsData r q.core.channels [] → q.core.greatest ≡ p.core.greatest → KeepsRows r p.core.channels q.core.channels → KeepsStreams m.association p q
      → TellsNoOpening (answer_met r) → VisitDid p r q
  plain_visit r p q did meets greatest rows kept unopened = record {
    wrote = [];
    heard = [];
    did = did;
    dcep = refl;
    passed = [];
    told = [];
    data_is = refl;
    passed_over = tt;
    meets = meets;
    greatest = greatest;
    rows = rows;
    streams = streams_stay m (answer_met r) p q did.acts.association did.went.association kept unopened (none_told r q.core.channels [] q meets);
  }

  -- what leaves the parts as they were
  abbrev pub StillHere : PolledPeer I D S M N → PolledPeer I D S M N → Type 0
  StillHere p n = SameParts m p n × (n.core.greatest ≡ p.core.greatest) × (n.core.channels ≡ p.core.channels)

  -- what is met that shows no data of channels and no datagram
  abbrev pub ShowsNone : Met E → Type 0
  ShowsNone r = (contents_met r ≡ []) × ((held : Channels) → MeetsData r held []) × TellsNoOpening (answer_met r)

  pub keeps_by : (r : Met E) (a b : Channels) → b.rows ≡ a.rows → KeepsRows r a b
  keeps_by Nothing a b is = is
  keeps_by Again a b is = is
  keeps_by (Transmit transmit) a b is = tt
  keeps_by (MetEvent event) a b is = tt
  keeps_by (Error error) a b is = tt

  pub still_visit : (x r : Met E) (p n q : PolledPeer I D S M N) → r ≡ x → q ≡ n → ShowsNone x → StillHere p n → VisitDid p r q
  still_visit x r p n q met is none same =
      visit_is x r p q met
      (subst (λ (y : PolledPeer I D S M N). VisitDid p x y) (sym is)
      (plain_visit x p n
      (subst (λ (l : List (List ℕ)). PeerDid m nothing_came (p.core.greatest ∷ []) l [] [] p n) (sym none.0)
      (still_did m nothing_came (p.core.greatest ∷ []) p n same.0)) (none.1 n.core.channels) same.1 (keeps_by x p.core.channels n.core.channels (ap (λ held. held.rows) same.2)) (ap (λ s. s.entries) same.0.3, same.2, states_same m.association p.core.sctp n.core.sctp same.0.3) none.2))

  module _ (laws : AssociationLaws m.association) where
    pub visit_on : (r : Met E) (p b q : PolledPeer I D S M N) → QuietDid p b → VisitDid b r q → VisitDid p r q
    visit_on r p b q x y = record {
      wrote = x.wrote ++ y.wrote;
      heard = x.heard ++ y.heard;
      did =
          did_on m laws nothing_came (p.core.greatest ∷ []) [] (contents_met r) x.wrote y.wrote x.heard y.heard p b q x.did
          (subst (λ (n : ℕ). PeerDid m nothing_came (n ∷ []) (contents_met r) y.wrote y.heard b q) x.greatest y.did);
      dcep = dcep_join x.wrote y.wrote x.dcep y.dcep;
      passed = shown_messages x.heard ++ y.passed;
      told = y.told;
      data_is =
          shown-append x.heard y.heard
          ∙ ap (λ l. shown_messages x.heard ++ l) y.data_is
          ∙ sym (append_assoc (shown_messages x.heard) y.passed y.told);
      passed_over =
          passed-append p.core.channels (shown_messages x.heard) y.passed x.data_passed (passed_with p.core.channels b.core.channels y.passed x.rows y.passed_over);
      meets = y.meets;
      greatest = y.greatest ∙ x.greatest;
      rows = rows_kept r p.core.channels b.core.channels q.core.channels x.rows y.rows;
      streams = streams_on m (answer_met r) 0 p b q x.wrote x.heard y.wrote y.heard x.rows x.streams y.streams;
    }

    pub quiet_on : (p b q : PolledPeer I D S M N) → QuietDid p b → QuietDid b q → QuietDid p q
    quiet_on p b q x y = record {
      wrote = x.wrote ++ y.wrote;
      heard = x.heard ++ y.heard;
      did =
          did_on m laws nothing_came (p.core.greatest ∷ []) [] [] x.wrote y.wrote x.heard y.heard p b q x.did
          (subst (λ (n : ℕ). PeerDid m nothing_came (n ∷ []) [] y.wrote y.heard b q) x.greatest y.did);
      dcep = dcep_join x.wrote y.wrote x.dcep y.dcep;
      data_passed =
          subst (λ (l : List SctpEvent). ArePassed p.core.channels l) (sym (shown-append x.heard y.heard))
          (passed-append p.core.channels (shown_messages x.heard) (shown_messages y.heard) x.data_passed
          (passed_with p.core.channels b.core.channels (shown_messages y.heard) x.rows y.data_passed));
      greatest = y.greatest ∙ x.greatest;
      rows = y.rows ∙ x.rows;
      streams = streams_on m (Ok (outputs.Timeout 0)) 0 p b q x.wrote x.heard y.wrote y.heard x.rows x.streams y.streams;
    }

    -- a stage acts, whatever is met
    abbrev pub StageActs : Stage (PolledPeer I D S M N) E → Type 0
    StageActs stage = (p : PolledPeer I D S M N) (r : Met E) (q : PolledPeer I D S M N) → stage p r q → VisitDid p r q

    pub else_acts : (first rest : Stage (PolledPeer I D S M N) E) → StageActs first → StageActs rest → StageActs (FollowedBy first rest)
    else_acts first rest one other p r q (Stopped met stage) = one p r q stage
    else_acts first rest one other p r q (WentOn between stage after) =
        visit_on r p between q (quiet_nothing p between (one p Nothing between stage)) (other between r q after)

    turns_act : (stage : Stage (PolledPeer I D S M N) E) → StageActs stage → (turns : ℕ) (p q : PolledPeer I D S M N) → StartsOver stage turns p q
        → QuietDid p q
    turns_act stage one zero p q h = subst (λ (x : PolledPeer I D S M N). QuietDid p x) (sym h) (quiet_none p)
    turns_act stage one (suc turns) p q h =
        quiet_on p h.0 q (turns_act stage one turns p h.0 h.1.0) (quiet_again h.0 q (one h.0 Again q h.1.1))

    pub repeats_acts : (stage : Stage (PolledPeer I D S M N) E) → StageActs stage → StageActs (RepeatsStage stage)
    repeats_acts stage one p r q h = visit_on r p h.last q (turns_act stage one h.turns p h.last h.over) (one h.last r q h.ends)
