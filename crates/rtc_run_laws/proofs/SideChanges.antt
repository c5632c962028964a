-- An association that is started stays so, and keeps its side: by each change of channels and of the entries of their streams.
use Rattle.std.proofs.Common.{◌≡◌, ◌∙◌, ℕ, zero, suc, Bool, true, false, List, [], ◌∷◌, Option, Some, None, Result, Ok, Err, refl, ap}
use Rattle.std.specs.declared.alloc.AllocError.{AllocError}
use Rattle.rtc_ready.specs.Signals.{Signals}
use Rattle.rtc_wire.specs.declared.channel_config.ChannelConfig.{ChannelConfig}
use Rattle.rtc_parts.specs.AssociationLaws.{AssociationLaws}
use Rattle.rtc_parts.specs.AssociationMeaning.{AssociationMeaning}
use Rattle.rtc_sctp.specs.declared.rtc_sctp_state.RtcSctpState.{RtcSctpState}
use Rattle.rtc_sctp.specs.declared.rtc_sctp_state.RtcSctpState.TheVariants.{Uninited, AwaitRemoteAssociation, AwaitAssociationEstablished, Established}
use Rattle.rtc_sctp.specs.Calls.{TimedBy}
use Rattle.rtc_sctp.specs.StreamCalls.{ClosesDataStream, SetsThreshold}
use Rattle.rtc_sctp.specs.Streams.{SctpStreams}
use Rattle.rtc_sctp_laws.proofs.CallActs.{closes_did, opens_did}
use Rattle.rtc_sctp_laws.proofs.ClosingPolls.{started_moved}
use Rattle.rtc_channels.specs.Channels.{Channel, Channels}
use Rattle.rtc_channels.specs.Openings.{Following, MeetsMoment, OpensAll, OpensChannel}
use Rattle.rtc_peer_polling.proofs.StreamStarts.{polled_start, timed_start}
use Rattle.rtc_peer_laws.specs.RowsChanged.{ChangeRows, OnlyActs, RowsChange, RowsChanged}
use Rattle.rtc_peer_laws.specs.RowsChanged.{Stayed, Polled, Timed, Progressed, ThresholdSet, StreamClosed, Confirmed, Made}
use Rattle.rtc_run_laws.proofs.StreamPolls.{poll_goes}

module _ {S : Type 0} (m : AssociationMeaning S) where
  -- a started association stays so, and keeps its side
  pub record StaysOnSide (p q : SctpStreams S) : Type 0 where
    pub started : m.started p.association ≡ true → m.started q.association ≡ true
    pub side : m.started p.association ≡ true → q.client ≡ p.client

  side_same : (p n q : SctpStreams S) → q ≡ n → n.association ≡ p.association → n.client ≡ p.client → StaysOnSide p q
  side_same p n q is association side = record {
    started = λ e. ap (λ (x : S). m.started x) (ap (λ (x : SctpStreams S). x.association) is ∙ association) ∙ e;
    side = λ e. ap (λ (x : SctpStreams S). x.client) is ∙ side;
  }

  side_on : (p b q : SctpStreams S) → StaysOnSide p b → StaysOnSide b q → StaysOnSide p q
  side_on p b q h k = record { started = λ e. k.started (h.started e); side = λ e. k.side (h.started e) ∙ h.side e }

  -- moments leave it
  pub timed_side : (st : RtcSctpState) (now : ℕ) (p : SctpStreams S) (wake : Signals) (r : Result (Unit {0}) AllocError) (q : SctpStreams S)
      (wake' : Signals) → TimedBy m st now p wake r q wake' → q.client ≡ p.client
  timed_side Uninited now p wake r q wake' h = ap (λ (x : SctpStreams S). x.client) h.1
  timed_side AwaitRemoteAssociation now p wake r q wake' h = ap (λ (x : SctpStreams S). x.client) h.1
  timed_side AwaitAssociationEstablished now p wake r q wake' h = ap (λ (x : SctpStreams S). x.client) h.1
  timed_side Established now p wake r q wake' h = ap (λ (x : SctpStreams S). x.client) h.1

  threshold_side : (n : ℕ) (place : Option ℕ) (p q : SctpStreams S) → SetsThreshold S n place p q → StaysOnSide p q
  threshold_side n None p q h = side_same p p q h refl refl
  threshold_side n (Some place) p q h = side_same p _ q h.2 refl refl

  module _ (w : AssociationLaws m) where
    closes_side : (id : ℕ) (p : SctpStreams S) (r : Result (Unit {0}) AllocError) (q : SctpStreams S) → ClosesDataStream m id p r q → StaysOnSide p q
    closes_side id p r q h =
        let d = closes_did m id p r q h in
        record {
          started = λ e. started_moved m w d.did.acts p.association q.association e d.did.went;
          side = λ e. ap (λ (x : SctpStreams S). x.client) h.1;
        }

    opens_side : (stream : Option ℕ) (config : Option ChannelConfig) (id : ℕ) (held : Channels) (p : SctpStreams S) (r : Result (Unit {0}) AllocError)
        (held' : Channels) (q : SctpStreams S) → OpensChannel m stream config id held p r held' q → StaysOnSide p q
    opens_side (Some stream) (Some config) id held p r held' q h =
        let d = opens_did m stream config p r q h.0 in
        record {
          started = λ e. started_moved m w d.did.acts p.association q.association e d.did.went;
          side = λ e. ap (λ (x : SctpStreams S). x.client) h.0.1;
        }
    opens_side (Some stream) None id held p r held' q h = side_same p p q h.2 refl refl
    opens_side None config id held p r held' q h = side_same p p q h.2 refl refl

    all_side : (rows : List Channel) (held : Channels) (p : SctpStreams S) (r : Result (Unit {0}) AllocError) (held' : Channels) (q : SctpStreams S)
        → OpensAll m rows held p r held' q → StaysOnSide p q
    all_side [] held p r held' q h = side_same p p q h.2 refl refl
    all_side (row ∷ rows) held p r held' q h =
        by h.0 (opens_side row.stream row.config row.id held p h.0 h.1 h.2 h.3) (λ k. all_side rows h.1 h.2 r held' q k) h.4
      where
        by : (did : Result (Unit {0}) AllocError) → StaysOnSide p h.2 → (OpensAll m rows h.1 h.2 r held' q → StaysOnSide h.2 q)
            → Following did (OpensAll m rows h.1 h.2 r held' q) ((r ≡ did) × (held' ≡ h.1) × (q ≡ h.2)) → StaysOnSide p q
        by (Ok done) first rest k = side_on p h.2 q first (rest k)
        by (Err error) first rest k = side_on p h.2 q first (side_same h.2 h.2 q k.2 refl refl)

    progress_side : (p : SctpStreams S) (r : Result (Unit {0}) AllocError) (held' : Channels) (q : SctpStreams S) (did : Result (Unit {0}) AllocError)
        (between : Channels) → Following did (OpensAll m between.rows between p r held' q) ((r ≡ did) × (held' ≡ between) × (q ≡ p))
        → StaysOnSide p q
    progress_side p r held' q (Ok done) between h = all_side between.rows between p r held' q h
    progress_side p r held' q (Err error) between h = side_same p p q h.2 refl refl

    moment_side : (due : Bool) (held : Channels) (p : SctpStreams S) (wake : Signals) (r : Result (Unit {0}) AllocError) (held' : Channels)
        (q : SctpStreams S) (wake' : Signals) → MeetsMoment m due held p wake r held' q wake' → StaysOnSide p q
    moment_side false held p wake r held' q wake' h = side_same p p q h.2 refl refl
    moment_side true held p wake r held' q wake' h = progress_side p r held' q h.0.0 h.0.1 h.0.3

    only_side : (a b : SctpStreams S) → OnlyActs m a b → StaysOnSide a b
    only_side a b h = record { started = λ e. started_moved m w h.acts a.association b.association e h.went; side = h.side }

    timeout_side : (now : ℕ) (a : SctpStreams S) (wake : Signals) (r : Result (Unit {0}) AllocError) (b : SctpStreams S) (wake' : Signals)
        → TimedBy m a.state now a wake r b wake' → StaysOnSide a b
    timeout_side now a wake r b wake' h = record {
      started = (timed_start m w a.state now a wake r b wake' h).started;
      side = λ e. timed_side a.state now a wake r b wake' h;
    }

    pub change_side : (held : Channels) (a : SctpStreams S) (held' : Channels) (b : SctpStreams S) → RowsChange m held a held' b → StaysOnSide a b
    change_side held a held' b (Stayed rows h) = only_side a b h
    change_side held a held' b (Polled answer streams h rows association entries state client) = record {
      started = λ e. ap (λ (x : S). m.started x) association ∙ (polled_start m w a answer streams h).started e;
      side = λ e. client ∙ (poll_goes m w a answer streams h).side;
    }
    change_side held a held' b (Timed now wake wake' r h is) = timeout_side now a wake r b wake' h
    change_side held a held' b (Progressed now wake wake' between h due started signals signals' k) =
        side_on a between b (timeout_side now a wake (Ok tt) between wake' h) (moment_side due held between signals (Ok tt) held' b signals' k)
    change_side held a held' b (ThresholdSet n place h is) = threshold_side n place a b h
    change_side held a held' b (StreamClosed stream r h is) = closes_side stream a r b h
    change_side held a held' b (Confirmed channels is h) = only_side a b h
    change_side held a held' b (Made config is h) = only_side a b h

    changes_side : (n : ℕ) (held : Channels) (a : SctpStreams S) (held' : Channels) (b : SctpStreams S) → ChangeRows m n held a held' b
        → StaysOnSide a b
    changes_side zero held a held' b h = side_same a a b h.1 refl refl
    changes_side (suc n) held a held' b h =
        side_on a h.1.0 b (changes_side n held a h.0 h.1.0 h.1.1.0) (change_side h.0 h.1.0 held' b h.1.1.1)

    pub changed_side : (held : Channels) (a : SctpStreams S) (held' : Channels) (b : SctpStreams S) → RowsChanged m held a held' b → StaysOnSide a b
    changed_side held a held' b h = changes_side h.changes held a held' b h.changed
