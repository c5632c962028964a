-- Entries of pasts that are worked by hand.
use Rattle.std.proofs.Common.{ℕ, Bool, false, List, [], ◌∷◌, map, Some, None}
use Rattle.std.specs.Prelude.{codes}
use Rattle.rtc_sdp_values.specs.declared.line_row.LineRow.{LineRow}
use Rattle.rtc_sdp_values.specs.declared.setup.Setup.TheVariants.{ActPass}
use Rattle.rtc_sdp_values.specs.declared.ice_creds.IceCreds.{IceCreds}
use Rattle.rtc_sdp_values.specs.declared.fingerprint.Fingerprint.{Fingerprint}
use Rattle.rtc_sdp_values.specs.declared.sdp.Sdp.{Sdp}
use Rattle.rtc_sctp_values.specs.SnapHalves.{nothing_kept}
use Rattle.rtc_channels.specs.Channels.{no_channels}
use Rattle.rtc_config.specs.RtcConfig.{default_config}
use Rattle.rtc_peer_core.specs.declared.sdp_head.SdpHead.{SdpHead}
use Rattle.rtc_peer_core.specs.declared.told_row.ToldRow.{ToldRow}
use Rattle.rtc_peer_core.specs.Formats.{config_formats}
use Rattle.rtc_peer_core.specs.MadeSdp.{no_media, sdp_of_rows}
use Rattle.rtc_run_history.specs.declared.side.Side.{Side}
use Rattle.rtc_run_history.specs.declared.step.Step.{Step}
use Rattle.rtc_run_history.specs.declared.outcome.Outcome.{Outcome}
use Rattle.rtc_run_history.specs.declared.table.Table.{Table}
use Rattle.rtc_run_history.specs.Answers.{waiting_row}
use Rattle.rtc_run_history.specs.Past.{Entry, MadeSdp}
use Rattle.rtc_run_history.specs.Views.{Stances}

abbrev pub worked_creds : IceCreds
worked_creds = record { ufrag = codes "u7"; pass = codes "p7" }

abbrev worked_fingerprint : Fingerprint
worked_fingerprint = record { hash_func = codes "sha-256"; bytes = codes "0123456789abcdef0123456789abcdef" }

abbrev pub other_creds : IceCreds
other_creds = record { ufrag = codes "u9"; pass = codes "p9" }

abbrev pub worked_head : SdpHead
worked_head = record {
  session = 1;
  lite = false;
  creds = worked_creds;
  fingerprint = worked_fingerprint;
  setup = ActPass;
  candidates = [];
  max_message_size = 262144;
  sctp_init = None;
}

-- a row of whose line nothing more is told
abbrev pub told_bare : LineRow → ToldRow
told_bare row = record { row = row; media = no_media }

-- the SDP of these rows, of a side with these credentials, which may be lite
abbrev pub worked_sdp : IceCreds → Bool → List LineRow → Sdp
worked_sdp creds lite rows = sdp_of_rows (record worked_head { lite = lite; creds = creds }) (map told_bare rows)

abbrev pub says_with : IceCreds → Bool → Side → Bool → List LineRow → List MadeSdp
says_with creds lite at offer rows = record { at = at; offer = offer; sdp = worked_sdp creds lite rows } ∷ []

abbrev pub says : Side → Bool → List LineRow → List MadeSdp
says at offer rows = says_with worked_creds false at offer rows

-- two sides that are not lite, with credentials
abbrev pub plain : Stances
plain at = record {
  session = 1;
  formats = config_formats default_config;
  lines = [];
  staged = [];
  undo = [];
  channels = no_channels;
  rows = [];
  counter = 0;
  outstanding = false;
  polite = None;
  ice = record { lite = false; local = worked_creds; remote = None; candidates = [] };
  own_fingerprint = worked_fingerprint;
  fingerprint = None;
  role = None;
  max_message_size = 262144;
  inited = false;
  snap = nothing_kept;
  line = λ mid. None;
}

-- an entry whose table shows these rows, and a channel of each of these numbers
abbrev pub entry : Step → Outcome (Unit {0}) → List LineRow → List ℕ → List MadeSdp → Entry (Unit {0})
entry step outcome rows ids made = record { step = step; outcome = outcome; table = Some (table_of rows ids); made = made }
  where
    table_of : List LineRow → List ℕ → Table
    table_of rows [] = record { lines = rows; channels = [] }
    table_of rows (id ∷ ids) = record { lines = rows; channels = waiting_row id ∷ (table_of rows ids).channels }
