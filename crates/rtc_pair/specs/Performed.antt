-- What a script leaves that is performed on the pair of the program.
use Rattle.std.specs.Prelude.{◌≡◌, ℕ, Bool, true, false, List, Option, Some}
use Rattle.std.specs.List.{list_any}
use Rattle.std.specs.declared.alloc.Global.{Global}
use Rattle.std.specs.Io.KnownBytes.{Appends}
use Rattle.rtc_run_history.specs.declared.side.Side.{Side}
use Rattle.rtc_run_history.specs.declared.side.Side.TheVariants.{Left, Right}
use Rattle.rtc_run_history.specs.declared.reply.Reply.{Reply}
use Rattle.rtc_run_history.specs.declared.step.Step.{Step}
use Rattle.rtc_run_history.specs.Memory.{lacks_memory, tell_fault}
use Rattle.rtc_run_laws.specs.Crossed.{CrossedOffersMeet}
use Rattle.rtc_run_history.specs.DrawnInRuns.{AllPlain, DrawsUnused}
use Rattle.rtc_run_history.specs.Fresh.{ArePeersFormed}
use Rattle.rtc_run_history.specs.Native.{are_native}
use Rattle.rtc_run_history.specs.Runs.{Runs}
use Rattle.rtc_run_history.specs.Signalled.{AllReadBack}
use Rattle.rtc_plain_ice.specs.Messages.{is_ice_message}
use Rattle.rtc_plain_media.specs.declared.plain_media_event.PlainMediaEvent.{PlainMediaEvent}
use Rattle.rtc_run_laws.specs.AcknowledgedData.{AcknowledgesData}
use Rattle.rtc_run_laws.specs.ConnectedSides.{ConnectedCanSend}
use Rattle.rtc_run_laws.specs.Drains.{DrainsWithin}
use Rattle.rtc_run_laws.specs.HandedOut.{HandsOut}
use Rattle.rtc_run_laws.specs.SettledPairs.{SettlesOpen}
use Rattle.rtc_run.specs.ProgramPair.{counting, plain_parts, PlainPairState, IsProgramPair}
use Rattle.rtc_run.specs.declared.peer_settings.PeerSettings.{PeerSettings}
use Rattle.rtc_script_reports.specs.Alike.{TellsReplies}
use Rattle.rtc_script_reports.specs.Fits.{AreAnswersTo, AreFit, AreInLine}
use Rattle.rtc_script_reports.specs.Report.{report}
use Rattle.rtc_script.specs.declared.script.Script.{Script}
use Rattle.rtc_script.specs.Settings.{sets_lite, sets_snap, buffer_set, interval_set, max_message_set, polite_set}
use Rattle.rtc_script.specs.declared.setting.Setting.{Setting}

-- whether a reply reports that memory ran out
abbrev pub lack_memory : {E : Type 0} → List (Reply E) → Bool
lack_memory replies = list_any lacks_memory replies

-- what the settings of a script set a peer to
abbrev pub peer_settings : Side → List (Side × Setting) → PeerSettings
peer_settings at settings = record {
  lite = sets_lite at settings;
  snap = sets_snap at settings;
  max_buffered = buffer_set at settings;
  max_message_size = max_message_set at settings;
  stats_interval = interval_set at settings;
  polite = polite_set at settings;
}

-- The pair of the program, as the settings of a script make it.
abbrev pub IsPairOf : Global → Script → PlainPairState → Type 0
IsPairOf alloc script pair =
    IsProgramPair alloc (peer_settings Left script.settings) (peer_settings Right script.settings) pair

-- A script was run on the program's pair, which is formed, with these replies, which left this pair. Four promises are for runs in which no
-- step brings in a text or bytes of anybody.
pub record RanScript (alloc : Global) (script : Script) (replies : List (Reply PlainMediaEvent)) (pair : PlainPairState) : Type 0 where
  pub start : PlainPairState
  pub program : IsPairOf alloc script start
  pub formed : ArePeersFormed plain_parts start
  pub runs : Runs plain_parts is_ice_message start script.steps replies pair
  -- each description is read back with the SSRCs of its lines, and as it was written if each SSRC was unused when it was drawn
  pub read_back : AllReadBack pair.sdps
  pub plain : DrawsUnused plain_parts is_ice_message start script.steps replies pair runs → AllPlain pair.sdps
  -- no reply reports that a part failed: those in memory never do
  pub no_fault : tell_fault replies ≡ false
  -- what in-band channels hand out is what the other side sent, and each is announced at most once
  pub channels : are_native script.steps ≡ true → HandsOut counting is_ice_message start script.steps replies pair runs
  -- once nothing is in flight, channels are open at both sides
  pub settles : are_native script.steps ≡ true → SettlesOpen counting is_ice_message start script.steps replies pair runs
  -- a buffered amount of 0 says that all data is acknowledged, if the last message is not empty
  pub acknowledges : are_native script.steps ≡ true → AcknowledgesData counting is_ice_message start script.steps replies pair runs
  -- a side that is connected can send over its DTLS connection
  pub connected : are_native script.steps ≡ true → ConnectedCanSend counting pair
  -- crossed offers of a polite and an impolite side that are in step settle
  pub crossed : CrossedOffersMeet plain_parts is_ice_message start
  -- each answer is of the kind that its operation gives
  pub answered : AreAnswersTo script.steps replies
  -- no name of a hash function that an error prints has an end of line
  pub in_line : AreInLine replies
  -- a drain shows at most as many outputs as its peer weighs before it
  pub drains : DrainsWithin plain_parts is_ice_message start runs.past pair

-- This text is the report of a run of a script.
pub record IsReport (alloc : Global) (script : Script) (text : List ℕ) : Type 0 where
  pub replies : List (Reply PlainMediaEvent)
  pub pair : PlainPairState
  pub ran : RanScript alloc script replies pair
  pub is : text ≡ report script.steps replies

-- The report of steps and their replies was written, which are of their types, and what they were performed on is kept.
pub record KeepsReport {P : Type 0} (lacking : Bool) (steps : List Step) (replies : List (Reply PlainMediaEvent)) (performed : P)
    (written written' : Option (List ℕ)) (last : Option P) : Type 0 where
  pub reported : Appends written written' (report steps replies)
  pub kept : last ≡ Some performed
  pub fit : AreFit steps replies
  pub memory : lack_memory replies ≡ lacking

-- A script was run, its report was written, and the pair is left. Other replies to its steps that have this report agree with its own.
pub record PerformsScript (alloc : Global) (lacking : Bool) (script : Script) (written written' : Option (List ℕ))
    (last : Option PlainPairState) : Type 0 where
  pub replies : List (Reply PlainMediaEvent)
  pub pair : PlainPairState
  pub ran : RanScript alloc script replies pair
  pub keeps : KeepsReport lacking script.steps replies pair written written' last
  pub tells : TellsReplies script.steps replies
