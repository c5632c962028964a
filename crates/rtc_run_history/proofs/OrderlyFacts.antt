-- Lists of steps that are orderly, and lists that are not, computed.
use Rattle.std.proofs.Common.{◌≡◌, ℕ, Bool, true, false, List, [], ◌∷◌, ◌++◌, Some, refl}
use Rattle.std.specs.Prelude.{codes}
use Rattle.rtc_wire.specs.declared.channel_config.ChannelConfig.{ChannelConfig}
use Rattle.rtc_wire.specs.ChannelConfig.{fresh}
use Rattle.rtc_sdp_values.specs.declared.direction.Direction.TheVariants.{SendRecv, SendOnly, RecvOnly, Inactive}
use Rattle.rtc_sdp_values.specs.declared.line_row.LineRow.TheVariants.{Media, App}
use Rattle.rtc_sdp_values.specs.declared.media_kind.MediaKind.TheVariants.{Audio, Video}
use Rattle.rtc_run_history.specs.declared.side.Side.{Side}
use Rattle.rtc_run_history.specs.declared.side.Side.TheVariants.{Left, Right}
use Rattle.rtc_run_history.specs.declared.op.Op.TheVariants.{AddMedia, SetDirection, StopMedia, AddChannel, IceRestart}
use Rattle.rtc_run_history.specs.declared.step.Step.{Step}
use Rattle.rtc_run_history.specs.declared.step.Step.TheVariants.{Negotiate, AcceptOffer, AcceptAnswer}
use Rattle.rtc_run_history.specs.Orderly.{Idle, AwaitsAnswer, course_of, are_orderly}

abbrev left_offers : Step
left_offers = Negotiate Left (AddMedia Audio SendRecv ∷ []) true

abbrev right_offers : Step
right_offers = Negotiate Right (AddMedia Audio SendRecv ∷ []) true

one_round : are_orderly (left_offers ∷ AcceptOffer Right 0 ∷ AcceptAnswer Left 0 1 ∷ []) ≡ true
one_round = refl

-- a second round, offered by the other side, and a list that ends within a round
two_rounds : are_orderly (left_offers ∷ AcceptOffer Right 0 ∷ AcceptAnswer Left 0 1 ∷ right_offers ∷ AcceptOffer Left 2 ∷ []) ≡ true
two_rounds = refl

-- lines that are staged and dropped, and ops that offer nothing, stand anywhere
nothing_offered : are_orderly (left_offers ∷ Negotiate Right (AddMedia Audio SendRecv ∷ []) false ∷ AcceptOffer Right 0 ∷ Negotiate Left [] true ∷ AcceptAnswer Left 0 1 ∷ []) ≡ true
nothing_offered = refl

both_offer : are_orderly (left_offers ∷ right_offers ∷ []) ≡ false
both_offer = refl

own_offer_accepted : are_orderly (left_offers ∷ AcceptOffer Left 0 ∷ []) ≡ false
own_offer_accepted = refl

answer_accepted_twice : are_orderly (left_offers ∷ AcceptOffer Right 0 ∷ AcceptAnswer Left 0 1 ∷ AcceptAnswer Left 0 1 ∷ []) ≡ false
answer_accepted_twice = refl

answer_before_it_is_made : are_orderly (left_offers ∷ AcceptAnswer Left 0 1 ∷ []) ≡ false
answer_before_it_is_made = refl

-- ---- directions that are set, and lines that are stopped

-- a round of one audio line and one video line
abbrev both_lines : List Step
both_lines = Negotiate Left (AddMedia Audio SendRecv ∷ AddMedia Video SendRecv ∷ []) true ∷ AcceptOffer Right 0 ∷ AcceptAnswer Left 0 1 ∷ []

-- a direction of the first line, in a step that applies it or does not
abbrev sets : Side → Bool → Step
sets at apply = Negotiate at (SetDirection 0 SendOnly ∷ []) apply

abbrev stops : ℕ → Step
stops place = Negotiate Left (StopMedia place ∷ []) true

-- a round that sets a direction leaves it inverse at the other side
direction_set :
    course_of (both_lines ++ sets Left true ∷ AcceptOffer Right 2 ∷ AcceptAnswer Left 2 3 ∷ [])
    ≡ Some (record {
      left = Media 0 [] Audio SendOnly false false ∷ Media 1 [] Video SendRecv false false ∷ [];
      right = Media 0 [] Audio RecvOnly false true ∷ Media 1 [] Video SendRecv false true ∷ [];
      sdps = 4;
      phase = Idle;
    })
direction_set = refl

-- the direction that a line has offers nothing: the next offer has the number that this one would have had
direction_set_again : are_orderly (both_lines ++ sets Left true ∷ AcceptOffer Right 2 ∷ AcceptAnswer Left 2 3 ∷ sets Left true ∷ sets Left true ∷ right_offers ∷ AcceptOffer Left 4 ∷ []) ≡ true
direction_set_again = refl

-- an answer does not make a line send that its side made inactive
inactive_line_stays :
    course_of (right_offers ∷ AcceptOffer Left 0 ∷ AcceptAnswer Right 0 1 ∷ Negotiate Right (SetDirection 0 Inactive ∷ []) true ∷ AcceptOffer Left 2 ∷ AcceptAnswer Right 2 3
    ∷ Negotiate Left (SetDirection 0 RecvOnly ∷ []) true ∷ AcceptOffer Right 4 ∷ AcceptAnswer Left 4 5 ∷ [])
    ≡ Some (record { left = Media 0 [] Audio Inactive false true ∷ []; right = Media 0 [] Audio Inactive false false ∷ []; sdps = 6; phase = Idle })
inactive_line_stays = refl

-- the second line is stopped in a later round
later_line_stopped :
    course_of (both_lines ++ stops 1 ∷ AcceptOffer Right 2 ∷ AcceptAnswer Left 2 3 ∷ [])
    ≡ Some (record {
      left = Media 0 [] Audio SendRecv false false ∷ Media 1 [] Video Inactive true false ∷ [];
      right = Media 0 [] Audio SendRecv false true ∷ Media 1 [] Video Inactive true true ∷ [];
      sdps = 4;
      phase = Idle;
    })
later_line_stopped = refl

-- a list that stops the first line is not
first_line_stopped : are_orderly (both_lines ++ stops 0 ∷ []) ≡ false
first_line_stopped = refl

-- a line that is stopped before the round's answer is stopped at both ends
stopped_by_answerer :
    course_of (Negotiate Left (AddMedia Audio SendRecv ∷ AddMedia Video SendRecv ∷ []) true ∷ AcceptOffer Right 0 ∷ Negotiate Right (StopMedia 1 ∷ []) false ∷ AcceptAnswer Left 0 1
    ∷ Negotiate Left (SetDirection 0 SendOnly ∷ []) true ∷ AcceptOffer Right 2 ∷ AcceptAnswer Left 2 3 ∷ [])
    ≡ Some (record {
      left = Media 0 [] Audio SendOnly false false ∷ Media 1 [] Video Inactive true false ∷ [];
      right = Media 0 [] Audio RecvOnly false true ∷ Media 1 [] Video Inactive true true ∷ [];
      sdps = 4;
      phase = Idle;
    })
stopped_by_answerer = refl

-- within a round that is under way, a direction is set, but not offered
set_within_a_round : course_of (right_offers ∷ AcceptOffer Left 0 ∷ sets Left false ∷ AcceptAnswer Right 0 1 ∷ [])
    ≡ Some (record { left = Media 0 [] Audio SendOnly false true ∷ []; right = Media 0 [] Audio SendRecv false false ∷ []; sdps = 2; phase = Idle })
set_within_a_round = refl

offered_within_a_round : are_orderly (right_offers ∷ AcceptOffer Left 0 ∷ sets Left true ∷ []) ≡ false
offered_within_a_round = refl

-- what is set where no line stands offers nothing
no_line_set : are_orderly (left_offers ∷ Negotiate Right (SetDirection 0 SendOnly ∷ []) true ∷ AcceptOffer Right 0 ∷ []) ≡ true
no_line_set = refl

-- an offer that is outstanding says its rows and those that it adds
offer_outstanding : course_of (both_lines ++ Negotiate Left (StopMedia 1 ∷ AddMedia Audio RecvOnly ∷ []) true ∷ [])
    ≡ Some (record {
      left = Media 0 [] Audio SendRecv false false ∷ Media 1 [] Video Inactive true false ∷ [];
      right = Media 0 [] Audio SendRecv false true ∷ Media 1 [] Video SendRecv false true ∷ [];
      sdps = 3;
      phase = AwaitsAnswer Left 2 (Media 0 [] Audio SendRecv false false ∷ Media 1 [] Video Inactive true false ∷ Media 2 [] Audio RecvOnly false false ∷ []);
    })
offer_outstanding = refl

-- ---- data channels

abbrev labelled : List ℕ → ChannelConfig
labelled label = record fresh { label = label }

abbrev channels : Side → Bool → Step
channels at apply = Negotiate at (AddChannel (labelled (codes "chat")) ∷ []) apply

abbrev channel_round : List Step
channel_round = channels Left true ∷ AcceptOffer Right 0 ∷ AcceptAnswer Left 0 1 ∷ []

-- the first channel brings its line
channel_offered : course_of channel_round ≡ Some (record { left = App 0 [] ∷ []; right = App 0 [] ∷ []; sdps = 2; phase = Idle })
channel_offered = refl

-- a line that is staged behind one of media, and brought once
lines_offered :
    course_of (Negotiate Left (AddMedia Audio SendRecv ∷ AddChannel (labelled []) ∷ AddChannel (labelled []) ∷ AddMedia Video SendRecv ∷ []) true ∷ [])
    ≡ Some (record {
      left = [];
      right = [];
      sdps = 1;
      phase = AwaitsAnswer Left 0 (Media 0 [] Audio SendRecv false false ∷ App 1 [] ∷ Media 2 [] Video SendRecv false false ∷ []);
    })
lines_offered = refl

-- a channel alone makes no offer once there is a line: the next offer has the number that this one would have had
channel_alone : are_orderly (channel_round ++ channels Left true ∷ right_offers ∷ AcceptOffer Left 2 ∷ []) ≡ true
channel_alone = refl

-- the side whose offer is outstanding applies no channel, but may stage one
superseded : are_orderly (channel_round ++ left_offers ∷ channels Left true ∷ []) ≡ false
superseded = refl

staged_alone : are_orderly (channel_round ++ left_offers ∷ channels Left false ∷ AcceptOffer Right 2 ∷ AcceptAnswer Left 2 3 ∷ []) ≡ true
staged_alone = refl

-- the other side may, once it has accepted the line
answerer_applies : are_orderly (channels Left true ∷ AcceptOffer Right 0 ∷ channels Right true ∷ AcceptAnswer Left 0 1 ∷ []) ≡ true
answerer_applies = refl

answerer_offers : are_orderly (channels Left true ∷ channels Right true ∷ []) ≡ false
answerer_offers = refl

-- a channel whose stream is settled by other means may be refused, applied or not
settled_elsewhere : are_orderly (Negotiate Left (AddChannel (record fresh { negotiated = Some 4 }) ∷ []) false ∷ []) ≡ false
settled_elsewhere = refl

-- ---- restarts of ICE

abbrev restarts : Side → Step
restarts at = Negotiate at (IceRestart true ∷ []) true

-- a restart alone makes an offer, once there is a line
restart_alone : are_orderly (both_lines ++ restarts Right ∷ AcceptOffer Left 2 ∷ AcceptAnswer Right 2 3 ∷ []) ≡ true
restart_alone = refl

-- an offer of no line is refused
restart_first : are_orderly (restarts Left ∷ []) ≡ false
restart_first = refl

-- with lines that are added, it is offered in the first round too
restart_with_lines :
    course_of (Negotiate Left (AddMedia Audio SendRecv ∷ AddChannel (labelled (codes "a")) ∷ IceRestart true ∷ []) true ∷ AcceptOffer Right 0 ∷ AcceptAnswer Left 0 1 ∷ [])
    ≡ Some (record { left = Media 0 [] Audio SendRecv false false ∷ App 1 [] ∷ []; right = Media 0 [] Audio SendRecv false true ∷ App 1 [] ∷ []; sdps = 2; phase = Idle })
restart_with_lines = refl

restart_within_a_round : are_orderly (right_offers ∷ AcceptOffer Left 0 ∷ restarts Left ∷ []) ≡ false
restart_within_a_round = refl

-- one that is dropped offers nothing
restart_dropped : are_orderly (right_offers ∷ Negotiate Left (IceRestart false ∷ []) false ∷ AcceptOffer Left 0 ∷ []) ≡ true
restart_dropped = refl
