-- What a poll does to the association.
use Rattle.std.proofs.Common.{if◌then◌else◌, ◌≡◌, ◌++◌, ◌∷◌, ◌==◌, inl, inr, ℕ, Bool, true, false, true≢false, List, [], append-nil, Option, Some, None, Result, Ok, Err, refl, sym, ap, subst, ◌∙◌, arith}
use Rattle.std.specs.declared.alloc.AllocError.{AllocError}
use Rattle.rtc_sctp_entries.specs.declared.sctp_event.SctpEvent.{SctpEvent}
use Rattle.rtc_sctp_entries.specs.declared.sctp_event.SctpEvent.TheVariants as event
use Rattle.rtc_sctp.specs.Streams.{SctpStreams}
use Rattle.rtc_sctp.specs.Polls.{PollsStreams}
use Rattle.rtc_sctp_laws.specs.StreamMessages.{pushed_packets}
use Rattle.rtc_sctp_laws.specs.GenerationLaws.{GenerationLaws}
use Rattle.rtc_sctp_laws.specs.UsedCalls.{PollUses}
use Rattle.rtc_sctp_laws.proofs.UsedPolls.{poll_uses}
use Rattle.rtc_sctp_entries.specs.declared.met.Met.TheVariants.{Output}
use Rattle.rtc_sctp_laws.specs.Contents.{data_of}
use Rattle.rtc_sctp_laws.proofs.ContentLemmas.{shown_contents}
use Rattle.rtc_sctp_laws.proofs.CurrentReadings.{reads_current}
use Rattle.rtc_sctp_laws.proofs.RunningPolls.{opening_runs}
use Rattle.rtc_channels.specs.Allocation.{channel_ensured}
use Rattle.rtc_channels.specs.Holds.{channels_without, holds_lost, removed_channel}
use Rattle.rtc_peer_core.specs.declared.rtc_error.RtcError.TheVariants.{Alloc}
use Rattle.rtc_peer_core.specs.Meanings.{Meanings, PartsLaws}
use Rattle.rtc_peer_transport.specs.declared.event.Event.TheVariants as told
use Rattle.rtc_peer_transport.specs.declared.met.Met.{Met}
use Rattle.rtc_peer_transport.specs.declared.met.Met.TheVariants.{Nothing, Again, Event as MetEvent, Error}
use Rattle.rtc_peer_transport.specs.declared.polled_peer.PolledPeer.{PolledPeer}
use Rattle.rtc_peer_transport.specs.Connection.{with_sctp, with_channels, with_pushed}
use Rattle.rtc_peer_polling.specs.StreamStages.{OpensChannelOver, ClosesChannelOver, HearsChannelOver, FallsChannelOver, LosesAssociation, TakesStreamEvent, TakesStreamAnswer}
use Rattle.rtc_peer_polling.specs.StreamStages.{PollsStreamEvent, PollsStreamEvents, SendsKeptPackets, TellsStreams, channel_over}
use Rattle.rtc_peer_polling.proofs.StreamWork.{poll_none}
use Rattle.rtc_peer_laws.specs.ChannelStreams.{HasNoRow, TellsMessage, Announced, NoNumber}
use Rattle.rtc_peer_laws.proofs.ChangedRows.{closed_row}
use Rattle.rtc_peer_laws.proofs.ChannelsOver.{ensured_over, without_over, same_stream, ensured_gone, removed_gone, none_left}
use Rattle.rtc_peer_laws.proofs.EnsuredRows.{ensured_full, ensured_given, ensured_rows}
use Rattle.rtc_peer_laws.proofs.StreamsJoin.{same_given}
use Rattle.rtc_peer_laws.proofs.UnsharedRows.{ensured_apart, without_apart}
use Rattle.rtc_peer_laws.proofs.ActedTransport.{closing_visit}
use Rattle.rtc_peer_laws.proofs.VisitActs.{VisitDid, quiet_nothing, visit_on, StageActs, else_acts, repeats_acts}
use Rattle.rtc_peer_laws.proofs.ActedPackets.{sends_visit}
use Rattle.rtc_peer_laws.proofs.PolledStreams.{StaysLiveBy, polled_visit, silent_visit}

number_is : (a b : ℕ) → Some a ≡ Some b → a ≡ b
number_is a b h = cc

no_number : (c : ℕ) → None ≡ Some c → ⊥
no_number c h = cc

module _ {I D S M E X T W N : Type 0} (m : Meanings I D S M E X T W N) (laws : PartsLaws m) where
  opens_visit : (stream : ℕ) (label : List ℕ) (streams : SctpStreams S) (p : PolledPeer I D S M N) (r : Met E) (q : PolledPeer I D S M N)
      → PollsStreams m.association p.core.sctp (Ok (Some (event.Open stream label))) streams
      → OpensChannelOver {I = I} {D = D} {S = S} {M = M} {E = E} {N = N} stream label (with_sctp streams p) r q → VisitDid m p r q
  unfolding OpensChannelOver
  opens_visit stream label streams p (MetEvent (told.ChannelOpen id text)) q h taken =
      silent_visit m laws (MetEvent (told.ChannelOpen id text)) (MetEvent (told.ChannelOpen id text)) (Ok (Some (event.Open stream label))) streams p _ q h refl refl refl
      taken.2 refl refl (refl, refl, refl, refl) refl (λ held. refl) tt (refl, refl) (λ s ws hs l. l.left)
      (λ c s g rising over live. (ensured_over stream s c p.core.channels over, live.1)) (λ c k. ensured_gone stream c p.core.channels k, λ k. ensured_apart stream p.core.channels k, ensured_given stream p.core.channels)
      (λ s own k. Announced (ap (λ (n : ℕ). channel_over n (channel_ensured stream p.core.channels)) (sym k) ∙ taken.1)) refl
      (λ did. record { stream = stream; over = taken.1; running = opening_runs m.association laws.association p.core.sctp stream label streams h; anew = λ c g rising live. (did.lives stream g live.1).0 refl; opened = λ w v ws hs used. (did.leaves v stream ws hs used).opens refl })
  opens_visit stream label streams p Again q h taken =
      silent_visit m laws Again Again (Ok (Some (event.Open stream label))) streams p _ q h refl refl refl taken.1 refl refl (refl, refl, refl, refl) refl
      (λ held. refl) (ensured_rows stream p.core.channels taken.0) (refl, refl) (λ s ws hs l. l.left)
      (λ c s g rising over live. (ensured_over stream s c p.core.channels over, live.1)) (λ c k. ensured_gone stream c p.core.channels k, λ k. ensured_apart stream p.core.channels k, ensured_given stream p.core.channels)
      (λ s own k. NoNumber (ensured_full stream p.core.channels taken.0)) refl (λ did. tt)
  opens_visit stream label streams p (Error Alloc) q h taken =
      silent_visit m laws (Error Alloc) (Error Alloc) (Ok (Some (event.Open stream label))) streams p _ q h refl refl refl taken refl refl (refl, refl, refl, refl) refl
      (λ held. refl) tt (refl, refl) (λ s ws hs l. tt) (λ c s g rising over live. tt) (λ c k. k, λ k. k, same_given p.core.channels.given p.core.channels.given refl) tt tt (λ did. tt)
  opens_visit stream label streams p _ q h taken = absurd taken

  -- the row of a channel goes, and another one's stays
  closed_live : (id stream : ℕ) (pending : Bool) (streams : SctpStreams S) (p : PolledPeer I D S M N) → channel_over stream p.core.channels ≡ Some id
      → StaysLiveBy m laws (MetEvent (told.ChannelClose id)) (Ok (Some (event.Close stream pending))) streams p
      (with_channels (removed_channel id pending p.core.channels) (with_sctp streams p))
  closed_live id stream pending streams p is c s g rising over (inl live) =
      inl (without_over s c id p.core.channels.rows (λ e. live.0 (same_stream stream s c p.core.channels rising (is ∙ ap (λ (n : ℕ). Some n) e) over)) over, live.1)
  closed_live id stream pending streams p is c s g rising over (inr shut) =
      let same = number_is id c (sym is ∙ ap (λ (n : ℕ). channel_over n p.core.channels) shut.0 ∙ over) in
      inr (same, shut.1, subst (λ (n : ℕ). HasNoRow c (channels_without n p.core.channels.rows)) (sym same) (none_left 0 c p.core.channels.rows rising))

  passed_live : (stream : ℕ) (pending : Bool) (streams : SctpStreams S) (p : PolledPeer I D S M N) → channel_over stream p.core.channels ≡ None
      → StaysLiveBy m laws Again (Ok (Some (event.Close stream pending))) streams p (with_sctp streams p)
  passed_live stream pending streams p is c s g rising over (inl live) = (over, live.1)
  passed_live stream pending streams p is c s g rising over (inr shut) =
      absurd (no_number c (sym is ∙ ap (λ (n : ℕ). channel_over n p.core.channels) shut.0 ∙ over))

  closes_visit : (id : Option ℕ) (stream : ℕ) (pending : Bool) (streams : SctpStreams S) (p : PolledPeer I D S M N) (r : Met E) (q : PolledPeer I D S M N)
      → channel_over stream p.core.channels ≡ id → PollsStreams m.association p.core.sctp (Ok (Some (event.Close stream pending))) streams
      → ClosesChannelOver {I = I} {D = D} {S = S} {M = M} {E = E} {N = N} id pending (with_sctp streams p) r q → VisitDid m p r q
  closes_visit (Some id) stream pending streams p r q is h taken =
      silent_visit m laws (MetEvent (told.ChannelClose id)) r (Ok (Some (event.Close stream pending))) streams p
      (with_channels (removed_channel id pending p.core.channels) (with_sctp streams p)) q h refl refl taken.0 taken.1 refl refl
      (refl, refl, refl, refl) refl (λ held. refl) tt (refl, refl) (λ s ws hs l. l.left) (closed_live id stream pending streams p is) (λ c k. removed_gone c id pending p.core.channels k, λ k. without_apart id p.core.channels.rows k, same_given p.core.channels.given p.core.channels.given refl) (λ s own k. absurd k) (closed_row (channel_over stream p.core.channels) (Some id) pending p.core.channels (removed_channel id pending p.core.channels) is refl) (λ did. tt)
  closes_visit None stream pending streams p r q is h taken =
      silent_visit m laws Again r (Ok (Some (event.Close stream pending))) streams p (with_sctp streams p) q h refl refl taken.0 taken.1 refl refl
      (refl, refl, refl, refl) refl (λ held. refl) refl (refl, refl) (λ s ws hs l. l.left) (passed_live stream pending streams p is) (λ c k. k, λ k. k, same_given p.core.channels.given p.core.channels.given refl) (λ s own k. absurd k) (closed_row (channel_over stream p.core.channels) None pending p.core.channels p.core.channels is (refl, refl)) (λ did. tt)

  falls_visit : (id : Option ℕ) (stream : ℕ) (streams : SctpStreams S) (p : PolledPeer I D S M N) (r : Met E) (q : PolledPeer I D S M N)
      → PollsStreams m.association p.core.sctp (Ok (Some (event.BufferedAmountLow stream))) streams
      → FallsChannelOver {I = I} {D = D} {S = S} {M = M} {E = E} {N = N} id (with_sctp streams p) r q → VisitDid m p r q
  falls_visit (Some id) stream streams p r q h taken =
      silent_visit m laws (MetEvent (told.ChannelBufferedAmountLow id)) r (Ok (Some (event.BufferedAmountLow stream))) streams p _ q h refl refl taken.0 taken.1 refl refl
      (refl, refl, refl, refl) refl (λ held. refl) tt (refl, refl) (λ s ws hs l. l.left) (λ c s g rising over live. (over, live)) (λ c k. k, λ k. k, same_given p.core.channels.given p.core.channels.given refl) (λ s own k. absurd k) (refl, refl) (λ did. tt)
  falls_visit None stream streams p r q h taken =
      silent_visit m laws Again r (Ok (Some (event.BufferedAmountLow stream))) streams p _ q h refl refl taken.0 taken.1 refl refl (refl, refl, refl, refl) refl
      (λ held. refl) refl (refl, refl) (λ s ws hs l. l.left) (λ c s g rising over live. (over, live)) (λ c k. k, λ k. k, same_given p.core.channels.given p.core.channels.given refl) (λ s own k. absurd k) (refl, refl) (λ did. tt)

  -- the message of a stream that is told was read of it in the generation that it has
  tells_data : (id stream : ℕ) (binary : Bool) (bytes : List ℕ) (streams : SctpStreams S) (p : PolledPeer I D S M N)
      → channel_over stream p.core.channels ≡ Some id → (did : PollUses m.association p.core.sctp (Output (event.Data stream binary bytes)) streams)
      → GenerationLaws m.association
      → TellsMessage m (record { id = id; binary = binary; bytes = bytes }) did.heard (with_sctp streams p)
  tells_data id stream binary bytes streams p is did v = record {
    stream = stream;
    over = is;
    before = [];
    read_is =
        sym (shown_contents stream (m.association.generation streams.association stream) did.heard
        (reads_current m.association v stream did.did.acts p.core.sctp.association streams.association did.heard did.did.given_is did.did.went did.did.heard_is))
        ∙ ap (data_of stream) (sym did.shown_is)
        ∙ own (stream == stream) (grind arith);
  }
    where
      own : (b : Bool) → b ≡ true → ◌≡◌ {A = List (Bool × List ℕ)} (if b then (binary, bytes) ∷ [] else []) ((binary, bytes) ∷ [])
      own true e = refl
      own false e = absurd (true≢false (sym e))

  -- data that is told where the stream has a channel, and passed over where it has none
  hears_visit : (id : Option ℕ) (stream : ℕ) (binary : Bool) (bytes : List ℕ) (streams : SctpStreams S) (p : PolledPeer I D S M N) (r : Met E)
      (q : PolledPeer I D S M N) → channel_over stream p.core.channels ≡ id
      → PollsStreams m.association p.core.sctp (Ok (Some (event.Data stream binary bytes))) streams
      → HearsChannelOver {I = I} {D = D} {S = S} {M = M} {E = E} {N = N} id binary bytes (with_sctp streams p) r q → VisitDid m p r q
  hears_visit (Some id) stream binary bytes streams p r q is h taken =
      let did = poll_uses m.association laws.association p.core.sctp (Ok (Some (event.Data stream binary bytes))) streams h in
      subst (λ (y : PolledPeer I D S M N). VisitDid m p r y) (sym taken.1)
      (polled_visit m laws (MetEvent (told.ChannelData (record { id = id; binary = binary; bytes = bytes }))) r (Ok (Some (event.Data stream binary bytes))) streams p
      (with_sctp streams p) [] (event.Data stream binary bytes ∷ []) did taken.0 refl did.sent_is (refl, refl, refl, refl) refl refl tt
      (stream, (refl, is)) tt (refl, refl) (λ s ws hs l. l.left) (λ c s g rising over live. (over, live)) (λ c k. k, λ k. k, same_given p.core.channels.given p.core.channels.given refl) (λ s own k. absurd k) (refl, refl) tt
      (λ v. tells_data id stream binary bytes streams p is did v) h)
  hears_visit None stream binary bytes streams p r q is h taken =
      let did = poll_uses m.association laws.association p.core.sctp (Ok (Some (event.Data stream binary bytes))) streams h in
      subst (λ (y : PolledPeer I D S M N). VisitDid m p r y) (sym taken.1)
      (polled_visit m laws Again r (Ok (Some (event.Data stream binary bytes))) streams p (with_sctp streams p) (event.Data stream binary bytes ∷ []) [] did
      taken.0 refl did.sent_is (refl, refl, refl, refl) refl refl (is, tt) refl refl (refl, refl) (λ s ws hs l. l.left) (λ c s g rising over live. (over, live)) (λ c k. k, λ k. k, same_given p.core.channels.given p.core.channels.given refl) (λ s own k. absurd k) (refl, refl) tt (λ v. tt) h)

  -- the association is lost
  lost_visit : (streams : SctpStreams S) (p : PolledPeer I D S M N) (r : Met E) (q : PolledPeer I D S M N)
      → PollsStreams m.association p.core.sctp (Ok (Some event.AssociationLost)) streams → LosesAssociation m (with_sctp streams p) r q → VisitDid m p r q
  unfolding LosesAssociation
  lost_visit streams p (MetEvent told.Closed) q h taken =
      visit_on m laws.association (MetEvent told.Closed) p (with_channels (holds_lost p.core.channels) (with_sctp streams p)) q
      (quiet_nothing m p (with_channels (holds_lost p.core.channels) (with_sctp streams p))
      (silent_visit m laws Nothing Nothing (Ok (Some event.AssociationLost)) streams p (with_channels (holds_lost p.core.channels) (with_sctp streams p)) _ h refl refl
      refl refl refl refl (refl, refl, refl, refl) refl (λ held. refl) refl (refl, refl) (λ s ws hs l. l.left) (λ c s g rising over live. (over, live)) (λ c k. k, λ k. k, same_given p.core.channels.given p.core.channels.given refl) (λ s own k. absurd k) (refl, refl) (λ did. tt)))
      (closing_visit m laws (MetEvent told.Closed) (Ok tt) (with_channels (holds_lost p.core.channels) (with_sctp streams p)) q refl refl tt taken)
  lost_visit streams p (Error error) q h taken =
      visit_on m laws.association (Error error) p (with_channels (holds_lost p.core.channels) (with_sctp streams p)) q
      (quiet_nothing m p (with_channels (holds_lost p.core.channels) (with_sctp streams p))
      (silent_visit m laws Nothing Nothing (Ok (Some event.AssociationLost)) streams p (with_channels (holds_lost p.core.channels) (with_sctp streams p)) _ h refl refl
      refl refl refl refl (refl, refl, refl, refl) refl (λ held. refl) refl (refl, refl) (λ s ws hs l. l.left) (λ c s g rising over live. (over, live)) (λ c k. k, λ k. k, same_given p.core.channels.given p.core.channels.given refl) (λ s own k. absurd k) (refl, refl) (λ did. tt)))
      (closing_visit m laws (Error error) (Err error) (with_channels (holds_lost p.core.channels) (with_sctp streams p)) q refl refl tt taken)
  lost_visit streams p _ q h taken = absurd taken

  event_visit : (e : SctpEvent) (streams : SctpStreams S) (p : PolledPeer I D S M N) (r : Met E) (q : PolledPeer I D S M N)
      → PollsStreams m.association p.core.sctp (Ok (Some e)) streams → TakesStreamEvent m e (with_sctp streams p) r q → VisitDid m p r q
  event_visit (event.Transmit packets) streams p r q h taken =
      let did = poll_uses m.association laws.association p.core.sctp (Ok (Some (event.Transmit packets))) streams h in
      let none = poll_none m.association laws.association p.core.sctp (Ok (Some (event.Transmit packets))) streams h in
      subst (λ (y : PolledPeer I D S M N). VisitDid m p r y) (sym taken.1)
      (polled_visit m laws Nothing r (Ok (Some (event.Transmit packets))) streams p (with_pushed (Some packets) (with_sctp streams p)) [] [] did taken.0 refl
      (sym (append-nil packets) ∙ ap (λ (o : Option (List (List ℕ))). packets ++ pushed_packets o) (sym none) ∙ did.sent_is) (refl, refl, refl, refl) refl
      refl tt refl refl (refl, refl) (λ s ws hs l. l.left) (λ c s g rising over live. (over, live)) (λ c k. k, λ k. k, same_given p.core.channels.given p.core.channels.given refl) (λ s own k. absurd k) (refl, refl) tt (λ v. tt) h)
  event_visit (event.Open stream label) streams p r q h taken = opens_visit stream label streams p r q h taken
  event_visit (event.Close stream pending) streams p r q h taken =
      closes_visit (channel_over stream p.core.channels) stream pending streams p r q refl h taken
  event_visit (event.StreamResetComplete stream) streams p r q h taken =
      silent_visit m laws Again r (Ok (Some (event.StreamResetComplete stream))) streams p _ q h refl refl taken.0 taken.1 refl refl (refl, refl, refl, refl) refl
      (λ held. refl) refl (refl, refl) (λ s ws hs l. l.left) (λ c s g rising over live. (over, live)) (λ c k. k, λ k. k, same_given p.core.channels.given p.core.channels.given refl) (λ s own k. absurd k) (refl, refl) (λ did. tt)
  event_visit (event.Data stream binary bytes) streams p r q h taken =
      hears_visit (channel_over stream p.core.channels) stream binary bytes streams p r q refl h taken
  event_visit (event.BufferedAmountLow stream) streams p r q h taken =
      falls_visit (channel_over stream p.core.channels) stream streams p r q h taken
  event_visit event.AssociationLost streams p r q h taken = lost_visit streams p r q h taken

  answer_visit : (answer : Result (Option SctpEvent) AllocError) (streams : SctpStreams S) (p : PolledPeer I D S M N) (r : Met E) (q : PolledPeer I D S M N)
      → PollsStreams m.association p.core.sctp answer streams → TakesStreamAnswer m answer (with_sctp streams p) r q → VisitDid m p r q
  answer_visit (Ok None) streams p r q h taken =
      silent_visit m laws Nothing r (Ok None) streams p _ q h refl refl taken.0 taken.1 refl refl (refl, refl, refl, refl) refl (λ held. refl) refl (refl, refl) (λ s ws hs l. l.left) (λ c s g rising over live. (over, live)) (λ c k. k, λ k. k, same_given p.core.channels.given p.core.channels.given refl) (λ s own k. absurd k) (refl, refl) (λ did. tt)
  answer_visit (Ok (Some e)) streams p r q h taken = event_visit e streams p r q h taken
  answer_visit (Err error) streams p r q h taken =
      silent_visit m laws (Error Alloc) r (Err error) streams p _ q h refl refl taken.0 taken.1 refl refl (refl, refl, refl, refl) refl (λ held. refl) tt (refl, refl)
      (λ s ws hs l. tt) (λ c s g rising over live. tt) (λ c k. k, λ k. k, same_given p.core.channels.given p.core.channels.given refl) tt tt (λ did. tt)

  events_act : StageActs m laws.association (PollsStreamEvents m)
  events_act =
      repeats_acts m laws.association (PollsStreamEvent m) (λ p r q turn. answer_visit turn.answer turn.streams p r q turn.by_poll turn.by_answer)

  -- what a poll takes from the streams
  pub streams_act : StageActs m laws.association (TellsStreams m)
  unfolding TellsStreams
  streams_act =
      else_acts m laws.association (PollsStreamEvents m) (SendsKeptPackets m) events_act
      (λ p r q h. sends_visit m laws p.core.sctp.pushed p (with_pushed None p) r q refl refl h)
