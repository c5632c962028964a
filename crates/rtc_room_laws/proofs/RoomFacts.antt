-- Worked examples of what members hear: a text of member 0 of room 7, which member 1 is sent and member 2 of room 8 is not.
use Rattle.std.proofs.Common.{◌≡◌, true, false, [], ◌∷◌, refl}
use Rattle.rtc_room_laws.specs.Members.{gone_member, hearing_member, new_member}
use Rattle.rtc_room_laws.specs.RoomSteps.{RoomState}
use Rattle.rtc_room_laws.specs.declared.item.Item.{Item}
use Rattle.rtc_room_laws.specs.ItemMessages.{messages_from}
use Rattle.rtc_room_laws.specs.RoomHandsOn.{are_together}
use Rattle.rtc_room_laws.proofs.ItemTexts.{written_message}

-- the text "hi"
abbrev pub hi : Item
hi = record { sender = 0; binary = false; bytes = 104 ∷ 105 ∷ [] }

-- it is sent on as binary, behind the number of its sender and a byte for text
hi_is_written : written_message hi ≡ (true, 0 ∷ 0 ∷ 0 ∷ 0 ∷ 0 ∷ 104 ∷ 105 ∷ [])
hi_is_written = refl

-- and read back, as one of its sender alone
hi_is_of_its_sender : messages_from 0 ((true, 0 ∷ 0 ∷ 0 ∷ 0 ∷ 0 ∷ 104 ∷ 105 ∷ []) ∷ []) ≡ (false, 104 ∷ 105 ∷ []) ∷ []
hi_is_of_its_sender = refl

hi_is_of_no_other : messages_from 1 ((true, 0 ∷ 0 ∷ 0 ∷ 0 ∷ 0 ∷ 104 ∷ 105 ∷ []) ∷ []) ≡ []
hi_is_of_no_other = refl

-- what is binary has another byte
binary_of_300 : messages_from 300 ((true, 0 ∷ 0 ∷ 1 ∷ 44 ∷ 1 ∷ 7 ∷ []) ∷ []) ≡ (true, 7 ∷ []) ∷ []
binary_of_300 = refl

-- members 0 and 1 of room 7, member 2 of room 8
abbrev pub three : RoomState
three = record { members = new_member 0 7 ∷ new_member 1 7 ∷ new_member 2 8 ∷ []; pairs = [] }

in_one_room : are_together 0 1 three ≡ true
in_one_room = refl

in_two_rooms : are_together 0 2 three ≡ false
in_two_rooms = refl

not_yet_joined : are_together 0 3 three ≡ false
not_yet_joined = refl

one_left : are_together 0 1 (record { members = new_member 0 7 ∷ gone_member (new_member 1 7) ∷ []; pairs = [] }) ≡ false
one_left = refl

-- the text waits for member 1 alone
waits_in_the_room : (hearing_member 0 7 (hi ∷ []) (new_member 1 7)).queue ≡ hi ∷ []
waits_in_the_room = refl

waits_in_no_other : (hearing_member 0 7 (hi ∷ []) (new_member 2 8)).queue ≡ []
waits_in_no_other = refl

not_for_its_sender : (hearing_member 0 7 (hi ∷ []) (new_member 0 7)).queue ≡ []
not_for_its_sender = refl
