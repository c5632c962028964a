-- Parts in memory that fail at listed calls.
use Rattle.std.specs.Prelude.{ℕ, List}
use Rattle.rtc_assoc_state.specs.Contents.{Contents, fresh_contents}
use Rattle.rtc_assoc_state.specs.PlainMeaning.{plain_meaning}
use Rattle.rtc_faulty.specs.declared.faulty.Faulty.{Faulty}
use Rattle.rtc_faulty.specs.FaultyAssociation.{faulty_association}
use Rattle.rtc_faulty.specs.FaultyDtls.{faulty_dtls}
use Rattle.rtc_faulty.specs.FaultyMedia.{faulty_media}
use Rattle.rtc_faulty.specs.Numbering.{Numbering}
use Rattle.rtc_peer_core.specs.declared.peer.Peer.{Peer}
use Rattle.rtc_peer_core.specs.Meanings.{Meanings, meanings}
use Rattle.rtc_peer_transport.specs.declared.polled_peer.PolledPeer.{PolledPeer}
use Rattle.rtc_plain_dtls.specs.Contents.{DtlsContents, fresh_dtls}
use Rattle.rtc_plain_dtls.specs.PlainMeaning.{plain_dtls}
use Rattle.rtc_plain_ice.specs.Contents.{IceContents}
use Rattle.rtc_plain_ice.specs.PlainMeaning.{plain_ice}
use Rattle.rtc_plain_media.specs.declared.plain_mark.PlainMark.{PlainMark}
use Rattle.rtc_plain_media.specs.declared.plain_media_event.PlainMediaEvent.{PlainMediaEvent}
use Rattle.rtc_plain_media.specs.MediaContents.{MediaContents, fresh_media}
use Rattle.rtc_plain_media.specs.PlainMediaMeaning.{plain_media_meaning}
use Rattle.rtc_run_history.specs.PairState.{PairState}
use Rattle.rtc_run.specs.ProgramPair.{counting}

-- these calls fail, and none was made
abbrev pub none_made : (failing : List ℕ) → Numbering
none_made failing = record { failing = failing; used = 0; faults = 0 }

-- the parts of a new peer, which fail at these calls
abbrev pub fresh_faulty_dtls : (failing : List ℕ) → Faulty DtlsContents
fresh_faulty_dtls failing = record { inner = fresh_dtls; numbers = none_made failing }

abbrev pub fresh_faulty_association : (failing : List ℕ) → Faulty Contents
fresh_faulty_association failing = record { inner = fresh_contents; numbers = none_made failing }

abbrev pub fresh_faulty_media : (failing : List ℕ) → Faulty MediaContents
fresh_faulty_media failing = record { inner = fresh_media; numbers = none_made failing }

-- the five parts: an ICE agent in memory; a DTLS part, an association and a media part in memory that fail at listed calls; numbers
-- that count up
abbrev pub faulty_parts : Meanings IceContents (Faulty DtlsContents) (Faulty Contents) (Faulty MediaContents)
    PlainMediaEvent PlainMark PlainMark PlainMark ℕ
faulty_parts =
    meanings plain_ice (faulty_dtls plain_dtls) (faulty_association plain_meaning) (faulty_media plain_media_meaning) counting

-- what negotiation keeps of a peer over these parts; the whole peer; a pair of such peers
abbrev pub FaultyCore : Type 0
FaultyCore = Peer IceContents (Faulty DtlsContents) (Faulty Contents) (Faulty MediaContents) ℕ

abbrev pub FaultyPolled : Type 0
FaultyPolled = PolledPeer IceContents (Faulty DtlsContents) (Faulty Contents) (Faulty MediaContents) ℕ

abbrev pub FaultyPairState : Type 0
FaultyPairState = PairState IceContents (Faulty DtlsContents) (Faulty Contents) (Faulty MediaContents) ℕ
