-- What an acceptance leaves of the association that it starts: the rows of the channels, the longest message that this side takes, whether
-- the association is started, and what is kept of starts by session descriptions.
use Rattle.std.proofs.Common.{◌≡◌, ◌⊎◌, inl, inr, Bool, Option, Result, Ok, Err, ap}
use Rattle.std.specs.Prelude.{not}
use Rattle.rtc_sdp_values.specs.Sdp.{sdp_setup, max_message_size_of}
use Rattle.rtc_sdp_values.specs.declared.sdp.Sdp.{Sdp}
use Rattle.rtc_sctp.specs.Streams.{SctpStreams}
use Rattle.rtc_sctp.proofs.BegunLemmas.{LeavesStart}
use Rattle.rtc_sctp_values.specs.InitHalves.{InitHalves}
use Rattle.rtc_sctp_values.specs.declared.sctp_error.SctpError.{SctpError}
use Rattle.rtc_channels.specs.Channels.{Channels}
use Rattle.rtc_peer_rows.specs.ParsedLines.{parsed_lines}
use Rattle.rtc_change.specs.TableAfter.{table_after}
use Rattle.rtc_peer_core.specs.declared.peer.Peer.{Peer}
use Rattle.rtc_peer_core.specs.ChannelRows.{channel_rows}
use Rattle.rtc_peer_core.specs.MadeSdp.{role_after}
use Rattle.rtc_peer_core.specs.Meanings.{Meanings, PartsLaws}
use Rattle.rtc_peer_core.specs.PartMoves.{remote_limit}
use Rattle.rtc_peer_core.specs.SdpMoves.{StartsBySdp}
use Rattle.rtc_peer_core.proofs.ChannelRowLemmas.{IsShutBefore, started_rows, started_size}
use Rattle.rtc_peer_core.proofs.StartedSctp.{HasStarted, has_started, refused_sctp}

-- a start by a session description, Ok or refused, leaves the rows of the channels
pub by_sdp_rows : {I D S M E X T W N : Type 0} (m : Meanings I D S M E X T W N) → PartsLaws m → (p : Peer I D S M N) (offers : Bool) (sdp : Sdp)
    (halves : Option InitHalves) (r : Result (Unit {0}) SctpError) (s : SctpStreams S) (held : Channels) → IsShutBefore m.association p.sctp
    → StartsBySdp m p offers sdp halves r s → channel_rows m.association s held ≡ channel_rows m.association p.sctp held
by_sdp_rows m laws p offers sdp halves r s held shut h =
    started_rows m.association laws.association p.sctp s (table_after p.lines (parsed_lines sdp) offers)
    (role_after p.dtls.active (sdp_setup sdp)) p.greatest (remote_limit (max_message_size_of sdp)) halves (not offers) r held shut h

-- and the longest message that this side takes
pub by_sdp_size : {I D S M E X T W N : Type 0} (m : Meanings I D S M E X T W N) (p : Peer I D S M N) (offers : Bool) (sdp : Sdp)
    (halves : Option InitHalves) (r : Result (Unit {0}) SctpError) (s : SctpStreams S) → StartsBySdp m p offers sdp halves r s
    → s.local_max ≡ p.sctp.local_max
by_sdp_size m p offers sdp halves r s h =
    started_size m.association p.sctp s (table_after p.lines (parsed_lines sdp) offers)
    (role_after p.dtls.active (sdp_setup sdp)) p.greatest (remote_limit (max_message_size_of sdp)) halves (not offers) r h

-- an Ok start leaves whether the association is started, and what is kept
pub by_sdp_start : {I D S M E X T W N : Type 0} (m : Meanings I D S M E X T W N) → PartsLaws m → (p : Peer I D S M N) (offers : Bool) (sdp : Sdp)
    (halves : Option InitHalves) (s : SctpStreams S) → StartsBySdp m p offers sdp halves (Ok tt) s
    → HasStarted m.association p.sctp (table_after p.lines (parsed_lines sdp) offers) halves (not offers) s
by_sdp_start m laws p offers sdp halves s h =
    has_started m.association laws.association p.sctp s (table_after p.lines (parsed_lines sdp) offers)
    (role_after p.dtls.active (sdp_setup sdp)) p.greatest (remote_limit (max_message_size_of sdp)) halves (not offers) h

-- a refused one leaves both
pub by_sdp_refused : {I D S M E X T W N : Type 0} (m : Meanings I D S M E X T W N) → PartsLaws m → (p : Peer I D S M N) (offers : Bool) (sdp : Sdp)
    (halves : Option InitHalves) (error : SctpError) (s : SctpStreams S) → StartsBySdp m p offers sdp halves (Err error) s
    → LeavesStart m.association p.sctp s
by_sdp_refused m laws p offers sdp halves error s h =
    refused_sctp m.association laws.association p.sctp s (table_after p.lines (parsed_lines sdp) offers)
    (role_after p.dtls.active (sdp_setup sdp)) p.greatest (remote_limit (max_message_size_of sdp)) halves (not offers) error h

-- and so does an acceptance that stopped
pub stopped_rows : {I D S M E X T W N : Type 0} (m : Meanings I D S M E X T W N) → PartsLaws m → (p : Peer I D S M N) (offers : Bool) (sdp : Sdp)
    (halves : Option InitHalves) (s : SctpStreams S) (held : Channels) → IsShutBefore m.association p.sctp
    → (s ≡ p.sctp) ⊎ ((error : SctpError) × StartsBySdp m p offers sdp halves (Err error) s)
    → channel_rows m.association s held ≡ channel_rows m.association p.sctp held
stopped_rows {I} {D} {S} m laws p offers sdp halves s held shut (inl same) = ap (λ (x : SctpStreams S). channel_rows m.association x held) same
stopped_rows m laws p offers sdp halves s held shut (inr starts) = by_sdp_rows m laws p offers sdp halves (Err starts.0) s held shut starts.1

pub stopped_size : {I D S M E X T W N : Type 0} (m : Meanings I D S M E X T W N) (p : Peer I D S M N) (offers : Bool) (sdp : Sdp)
    (halves : Option InitHalves) (s : SctpStreams S) → (s ≡ p.sctp) ⊎ ((error : SctpError) × StartsBySdp m p offers sdp halves (Err error) s)
    → s.local_max ≡ p.sctp.local_max
stopped_size {I} {D} {S} m p offers sdp halves s (inl same) = ap (λ (x : SctpStreams S). x.local_max) same
stopped_size m p offers sdp halves s (inr starts) = by_sdp_size m p offers sdp halves (Err starts.0) s starts.1

pub stopped_start : {I D S M E X T W N : Type 0} (m : Meanings I D S M E X T W N) → PartsLaws m → (p : Peer I D S M N) (offers : Bool) (sdp : Sdp)
    (halves : Option InitHalves) (s : SctpStreams S) → (s ≡ p.sctp) ⊎ ((error : SctpError) × StartsBySdp m p offers sdp halves (Err error) s)
    → LeavesStart m.association p.sctp s
stopped_start {I} {D} {S} m laws p offers sdp halves s (inl same) = record {
  started = ap (λ (x : SctpStreams S). m.association.started x.association) same;
  snap = ap (λ (x : SctpStreams S). x.snap) same;
}
stopped_start m laws p offers sdp halves s (inr starts) = by_sdp_refused m laws p offers sdp halves starts.0 s starts.1
