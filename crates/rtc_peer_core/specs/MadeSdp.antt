-- The offers and answers that a peer makes.
use Rattle.std.specs.Prelude.{ℕ, ◌+◌, Bool, true, false, not, List, [], ◌∷◌}
use Rattle.std.specs.Prelude.{◌++◌, map, filter, length, drop, if◌then◌else◌, Option, Some, None}
use Rattle.rtc_sdp_values.specs.LineRow.{row_mid}
use Rattle.rtc_sdp_values.specs.MediaLine.{bare_line}
use Rattle.rtc_sdp_values.specs.Sdp.{sdp_setup}
use Rattle.rtc_sdp_values.specs.declared.candidate.Candidate.{Candidate}
use Rattle.rtc_sdp_values.specs.declared.ice_creds.IceCreds.{IceCreds}
use Rattle.rtc_sdp_values.specs.declared.line_row.LineRow.{LineRow}
use Rattle.rtc_sdp_values.specs.declared.line_row.LineRow.TheVariants.{Media, App}
use Rattle.rtc_sdp_values.specs.declared.line_kind.LineKind.{LineKind}
use Rattle.rtc_sdp_values.specs.declared.line_kind.LineKind.TheVariants.{Audio as AudioLine, Video as VideoLine, Application}
use Rattle.rtc_sdp_values.specs.declared.media_kind.MediaKind.{MediaKind}
use Rattle.rtc_sdp_values.specs.declared.media_kind.MediaKind.TheVariants.{Audio, Video}
use Rattle.rtc_sdp_values.specs.declared.direction.Direction.TheVariants.{SendRecv}
use Rattle.rtc_sdp_values.specs.declared.setup.Setup.{Setup}
use Rattle.rtc_sdp_values.specs.declared.setup.Setup.TheVariants.{ActPass, Active, Passive}
use Rattle.rtc_sdp_values.specs.declared.media_line.MediaLine.{MediaLine}
use Rattle.rtc_sdp_values.specs.declared.msid.Msid.{Msid}
use Rattle.rtc_sdp_values.specs.declared.ssrc.Ssrc.{Ssrc}
use Rattle.rtc_sdp_values.specs.declared.sdp.Sdp.{Sdp}
use Rattle.rtc_sdp_codecs.specs.LineFormats.{rows_of_kind, extensions_of_kind}
use Rattle.rtc_parts.specs.IceMeaning.{IceSettings}
use Rattle.rtc_parts.specs.declared.media_update.MediaUpdate.{MediaUpdate}
use Rattle.rtc_change.specs.declared.add_media.AddMedia.{AddMedia as AddedMedia}
use Rattle.rtc_change.specs.declared.change.Change.{Change}
use Rattle.rtc_change.specs.declared.change.Change.TheVariants.{AddMedia, AddApp, AddChannel, Direction as SetDirection, IceRestart}
use Rattle.rtc_change.specs.PendingOffer.{added_rows, staged_restart}
use Rattle.rtc_peer_rows.specs.ParsedLines.{parsed_lines}
use Rattle.rtc_change.specs.TableAfter.{table_after}
use Rattle.rtc_peer_core.specs.declared.formats.Formats.{Formats}
use Rattle.rtc_peer_core.specs.declared.line_media.LineMedia.{LineMedia}
use Rattle.rtc_peer_core.specs.declared.sdp_head.SdpHead.{SdpHead}
use Rattle.rtc_peer_core.specs.declared.told_row.ToldRow.{ToldRow}
use Rattle.rtc_peer_core.specs.SessionExtensions.{added_formats}
use Rattle.rtc_peer_core.specs.Stance.{Stance}

abbrev pub is_stopped : LineRow → Bool
is_stopped (Media place mid kind dir stopped remote_created) = stopped
is_stopped (App place mid) = false

abbrev pub line_kind : MediaKind → LineKind
line_kind Audio = AudioLine
line_kind Video = VideoLine

-- ---- what lines carry
-- nothing of media
abbrev pub no_media : LineMedia
no_media = record { payloads = []; exts = []; simulcast = None; msid = None; cname = None; ssrcs = [] }

-- what a media part is given, or was given last, of a line
abbrev pub media_of_update : MediaUpdate → LineMedia
media_of_update update = record {
  payloads = update.payloads;
  exts = update.exts;
  simulcast = update.simulcast;
  msid = update.msid;
  cname = update.cname;
  ssrcs = update.ssrcs_tx;
}

-- a line that this side adds has the rows and the extensions of its kind, and what was staged with it
abbrev pub media_of_added : Formats → AddedMedia → LineMedia
media_of_added formats media = record {
  payloads = rows_of_kind media.kind formats.codecs.rows;
  exts = extensions_of_kind media.kind formats.extensions.rows;
  simulcast = media.simulcast;
  msid = Some media.msid;
  cname = Some media.cname;
  ssrcs = media.ssrcs;
}

-- a line that was declared and is not negotiated yet has the rows and the extensions of its kind, and its mid for all names; one that is
-- stopped before has nothing
abbrev pub media_of_declared : Formats → (stopped : Bool) → MediaKind → List ℕ → LineMedia
media_of_declared formats true kind mid = no_media
media_of_declared formats false kind mid = record {
  payloads = rows_of_kind kind formats.codecs.rows;
  exts = extensions_of_kind kind formats.extensions.rows;
  simulcast = None;
  msid = Some (record { stream_id = mid; track_id = mid });
  cname = Some mid;
  ssrcs = [];
}

-- what a line carries if a media part has this of it; if it has nothing, the line is as it was declared
abbrev pub media_held : LineMedia → Option MediaUpdate → LineMedia
media_held declared None = declared
media_held declared (Some update) = media_of_update update

-- a stopped line carries no stream and no SSRC
abbrev pub shown_msid : Bool → Option Msid → Option Msid
shown_msid true msid = None
shown_msid false msid = msid

abbrev pub shown_ssrcs : Bool → List (Ssrc × Option Ssrc) → List (Ssrc × Option Ssrc)
shown_ssrcs true ssrcs = []
shown_ssrcs false ssrcs = ssrcs

-- a description has a `cname` if it has SSRCs
abbrev pub name_of_sources : List (Ssrc × Option Ssrc) → Option (List ℕ) → Option (List ℕ)
name_of_sources [] cname = None
name_of_sources (ssrc ∷ ssrcs) cname = cname

-- ---- lines
-- the m-line of a row, which carries of its peer only how long messages of its data channels may be
abbrev pub bare_row_line : (most : ℕ) → LineMedia → LineRow → MediaLine
bare_row_line most media (Media place mid kind dir stopped remote_created) = record (bare_line (line_kind kind) mid dir) {
  disabled = stopped;
  payloads = media.payloads;
  exts = media.exts;
  simulcast = media.simulcast;
  msid = shown_msid stopped media.msid;
  cname = name_of_sources (shown_ssrcs stopped media.ssrcs) media.cname;
  ssrcs = shown_ssrcs stopped media.ssrcs;
}
bare_row_line most media (App place mid) = record (bare_line Application mid SendRecv) { max_message_size = Some most }

-- what the m-line of data channels carries of the start of the association
abbrev pub init_of_row : Option (List ℕ) → LineRow → Option (List ℕ)
init_of_row told (Media place mid kind dir stopped remote_created) = None
init_of_row told (App place mid) = told

-- the m-line of a row, with the credentials, the fingerprint, the role, the longest message and the start of its peer
abbrev pub row_line : SdpHead → LineMedia → LineRow → MediaLine
row_line head media row = record (bare_row_line head.max_message_size media row) {
  sctp_init = init_of_row head.sctp_init row;
  creds = Some head.creds;
  fingerprint = Some head.fingerprint;
  setup = Some head.setup;
}

abbrev pub told_line : SdpHead → ToldRow → MediaLine
told_line head told = row_line head told.media told.row

abbrev pub row_told : ToldRow → LineRow
row_told told = told.row

-- the mids of the BUNDLE group: those of the rows that are not stopped (RFC 8843, section 7)
abbrev pub live_mids : List LineRow → List (List ℕ)
live_mids rows = map row_mid (filter (λ row. not (is_stopped row)) rows)

-- candidates are on the first m-line, since all lines share one transport (RFC 8843, section 10)
abbrev pub with_candidates : List Candidate → List MediaLine → List MediaLine
with_candidates candidates [] = []
with_candidates candidates (line ∷ lines) = record line { candidates = candidates } ∷ lines

-- the session description of rows
abbrev pub sdp_of_rows : SdpHead → List ToldRow → Sdp
sdp_of_rows head told = record {
  id = head.session;
  groups = live_mids (map row_told told) ∷ [];
  ice_lite = head.lite;
  creds = None;
  fingerprint = None;
  setup = None;
  lines = with_candidates head.candidates (map (told_line head) told);
}

-- ---- rows as descriptions carry them
-- what a media part is about to be given of lines is before what it has of them
abbrev pub newest : List MediaUpdate → Option MediaUpdate → Option MediaUpdate
newest [] held = held
newest (update ∷ updates) held = Some update

-- what the line of a row carries: of media what the first of these updates says, or else what a media part has of its line; if it has
-- nothing, the line is as it was declared
abbrev pub media_told : Formats → (List ℕ → Option MediaUpdate) → List MediaUpdate → LineRow → LineMedia
media_told formats line updates (Media place mid kind dir stopped remote_created) =
    media_held (media_of_declared formats stopped kind mid) (newest updates (line mid))
media_told formats line updates (App place mid) = no_media

-- there is an update for each row of media, in their order
abbrev pub updates_behind : LineRow → List MediaUpdate → List MediaUpdate
updates_behind (Media place mid kind dir stopped remote_created) updates = drop 1 updates
updates_behind (App place mid) updates = updates

-- rows, with what a media part is about to be given of those in front, and what it has of the others
abbrev pub told_rows : Formats → (List ℕ → Option MediaUpdate) → List MediaUpdate → List LineRow → List ToldRow
told_rows formats line updates [] = []
told_rows formats line updates (row ∷ rows) =
    record { row = row; media = media_told formats line updates row } ∷ told_rows formats line (updates_behind row updates) rows

-- the row of the line that a change adds at a place, if it adds one
abbrev pub new_told : Formats → ℕ → Change → Option ToldRow
new_told formats place (AddMedia media) =
    Some (record { row = Media place media.mid media.kind media.dir false false; media = media_of_added formats media })
new_told formats place (AddApp mid) = Some (record { row = App place mid; media = no_media })
new_told formats place (AddChannel id config) = None
new_told formats place (SetDirection mid dir) = None
new_told formats place (IceRestart creds keeps) = None

-- the rows of the lines that changes add, at places from this one on
abbrev pub added_told : Formats → ℕ → List Change → List ToldRow
added_told formats place [] = []
added_told formats place (change ∷ changes) = elim (new_told formats place change) [
  | None ↦ added_told formats place changes
  | Some told ↦ told ∷ added_told formats (place + 1) changes
]

-- the credentials of a restart that is asked for, or else those that are in use
abbrev pub creds_in_use : Option (IceCreds × Bool) → IceSettings → IceCreds
creds_in_use None settings = settings.local
creds_in_use (Some restart) settings = restart.0

-- the local candidates, unless a restart does not keep them
abbrev pub candidates_in_use : Option (IceCreds × Bool) → IceSettings → List Candidate
candidates_in_use None settings = settings.candidates
candidates_in_use (Some restart) settings = if restart.1 then settings.candidates else []

-- the role of this side by the setup of the other side: if that leaves the choice, this side waits for the handshake (RFC 8842, section
-- 5.3)
abbrev pub role_for : Option Setup → Bool
role_for None = false
role_for (Some ActPass) = false
role_for (Some Active) = false
role_for (Some Passive) = true

-- the first role is kept
abbrev pub role_after : Option Bool → Option Setup → Bool
role_after None told = role_for told
role_after (Some role) told = role

abbrev pub setup_of_role : Bool → Setup
setup_of_role true = Active
setup_of_role false = Passive

-- what an offer carries of its side: either side may take either DTLS role (RFC 8842, section 5.2)
abbrev pub offer_head : Stance → Option (List ℕ) → SdpHead
offer_head s init = record {
  session = s.session;
  lite = s.ice.lite;
  creds = creds_in_use (staged_restart s.staged) s.ice;
  fingerprint = s.own_fingerprint;
  setup = ActPass;
  candidates = candidates_in_use (staged_restart s.staged) s.ice;
  max_message_size = s.max_message_size;
  sctp_init = init;
}

-- the rows of an offer: those that are there, then those that it adds
abbrev pub offered_rows : Stance → List LineRow
offered_rows s = s.lines ++ added_rows (length s.lines) s.staged

-- with what they carry
abbrev pub held_told : Stance → List ToldRow
held_told s = told_rows s.formats s.line [] s.lines

-- the formats of the lines that an offer adds
abbrev pub offered_formats : Stance → Formats
offered_formats s = added_formats s.formats.session_ids s.formats (held_told s)

abbrev pub offered_told : Stance → List ToldRow
offered_told s = held_told s ++ added_told (offered_formats s) (length s.lines) s.staged

-- the offer of what is staged, with this text of a chunk for the start of the association
unfoldable pub offer_sdp : Stance → Option (List ℕ) → Sdp
offer_sdp s init = sdp_of_rows (offer_head s init) (offered_told s)

-- what an answer carries of its side, if it follows a restart with these credentials or follows none
abbrev pub answer_head : Stance → Option (IceCreds × Bool) → Option (List ℕ) → Sdp → SdpHead
answer_head s restart init offer = record {
  session = s.session;
  lite = s.ice.lite;
  creds = creds_in_use restart s.ice;
  fingerprint = s.own_fingerprint;
  setup = setup_of_role (role_after s.role (sdp_setup offer));
  candidates = candidates_in_use restart s.ice;
  max_message_size = s.max_message_size;
  sctp_init = init;
}

-- the rows that an offer leaves, with what the lines carry once a media part was given these updates
abbrev pub answered_told : Stance → List MediaUpdate → Sdp → List ToldRow
answered_told s updates offer = told_rows s.formats s.line updates (table_after s.lines (parsed_lines offer) true)

-- the answer to an offer of whose lines the media part is given this, with this text of a SNAP INIT chunk
unfoldable pub answer_sdp : Stance → Option (IceCreds × Bool) → List MediaUpdate → Option (List ℕ) → Sdp → Sdp
answer_sdp s restart updates init offer = sdp_of_rows (answer_head s restart init offer) (answered_told s updates offer)
