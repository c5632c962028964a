-- The report of a room's replies.
use Rattle.std.specs.Prelude.{◌+◌, ℕ, List, [], ◌∷◌, ◌++◌, codes}
use Rattle.std.specs.Fmt.{decimal}
use Rattle.rtc_script_reports.specs.Report.{reply_text}
use Rattle.rtc_room_laws.specs.declared.room_reply.RoomReply.{RoomReply}
use Rattle.rtc_room_laws.specs.declared.room_reply.RoomReply.TheVariants.{Joined, Left, Performed, Forwarded, PutOut, NoMember, Full}
use Rattle.rtc_room_laws.specs.declared.room_reply.RoomReply.TheVariants.{NotAllowed}

-- the text of a reply: that of a step of a member's pair has several lines
abbrev pub room_reply_text : RoomReply → List ℕ
room_reply_text (Joined member) = codes "joined " ++ decimal member ++ codes "\n"
room_reply_text Left = codes "left\n"
room_reply_text (Performed reply) = reply_text reply
room_reply_text (Forwarded taken) = codes "forwarded " ++ decimal taken ++ codes "\n"
room_reply_text PutOut = codes "putout\n"
room_reply_text NoMember = codes "nomember\n"
room_reply_text Full = codes "full\n"
room_reply_text NotAllowed = codes "notallowed\n"

-- the text of a step: its number, and its reply
abbrev pub room_step_text : ℕ → RoomReply → List ℕ
room_step_text number reply = codes "step " ++ decimal number ++ codes " " ++ room_reply_text reply

abbrev pub room_report_from : ℕ → List RoomReply → List ℕ
room_report_from number [] = []
room_report_from number (reply ∷ replies) = room_step_text number reply ++ room_report_from (number + 1) replies

-- the report of replies, numbered from 0
abbrev pub room_report : List RoomReply → List ℕ
room_report replies = room_report_from 0 replies
