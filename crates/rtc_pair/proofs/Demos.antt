-- Demos on the pair of the program.
use Rattle.std.proofs.Common.{◌≡◌, ◌≤◌, ℕ, Bool, true, false, not, ◌&&◌, List, [], Option, refl, ap, subst, ◌∙◌}
use Rattle.std.specs.declared.alloc.Global.{Global}
use Rattle.rtc_config.specs.RtcConfig.{default_ice}
use Rattle.rtc_demo.proofs.FinishedDemos.{demo_finishes, demo_native}
use Rattle.rtc_demo.proofs.OrderlyDemos.{demo_orderly}
use Rattle.rtc_demo.specs.DemoCounts.{count_finished}
use Rattle.rtc_run_history.specs.Orderly.{can_connect}
use Rattle.rtc_run_history.specs.PairState.{stances_of}
use Rattle.rtc_run_history.specs.declared.reply.Reply.{Reply}
use Rattle.rtc_run_history.specs.declared.side.Side.TheVariants.{Left, Right}
use Rattle.rtc_io.proofs.Told.{breaks_off_as}
use Rattle.rtc_io.specs.Saying.{BreaksOff}
use Rattle.rtc_peer_core.specs.Stance.{stance_of}
use Rattle.rtc_plain_ice.specs.Calls.{lite_set, local_set, local_added}
use Rattle.rtc_plain_ice.specs.Contents.{IceContents}
use Rattle.rtc_plain_ice.specs.Messages.{is_ice_message}
use Rattle.rtc_plain_media.specs.declared.plain_media_event.PlainMediaEvent.{PlainMediaEvent}
use Rattle.rtc_run.specs.ProgramPair.{PlainPeer, PlainPairState, plain_parts, host_at, program_config, IsProgramPeer, IsProgramPair}
use Rattle.rtc_run.proofs.PlainPeers.{agent_after, built_agent}
use Rattle.rtc_run.specs.declared.peer_settings.PeerSettings.{PeerSettings}
use Rattle.rtc_script.specs.declared.script.Script.{Script}
use Rattle.rtc_sdp_values.specs.declared.candidate.Candidate.{Candidate}
use Rattle.rtc_sdp_values.specs.declared.ice_creds.IceCreds.{IceCreds}
use Rattle.rtc_wire.specs.declared.addr.Addr.{Addr}
use Rattle.rtc_pair.specs.Performed.{RanScript, lack_memory, peer_settings}
use Rattle.rtc_pair.specs.PerformedDemo.{demo_script, demo_text, TellsCounts, PerformsDemo, IsDemoText}

-- ---- agents of the program that are not lite

lite_after : (initial : ℕ) (lite : Bool) (creds : IceCreds) → (agent_after initial lite creds).settings.lite ≡ lite
unfolding local_set lite_set
lite_after initial lite creds = refl

added_lite : (c : Candidate) (p : IceContents) → (local_added c p).settings.lite ≡ p.settings.lite
unfolding local_added
added_lite c p = refl

lite_of : (alloc : Global) (settings : PeerSettings) (cert : List ℕ) (first : ℕ) (addr : Addr) (p : PlainPeer) → IsProgramPeer alloc settings cert first addr p → (stance_of plain_parts p).ice.lite ≡ settings.lite
lite_of alloc settings cert first addr p made =
    ap (λ (ice : IceContents). ice.settings.lite) made.by_address.1 ∙ added_lite (host_at addr) made.built.ice
    ∙ ap (λ (ice : IceContents). ice.settings.lite) (built_agent alloc (program_config settings cert) first made.built made.by_build)
    ∙ lite_after default_ice.initial_stun_rto settings.lite _

connects : (alloc : Global) (left_settings right_settings : PeerSettings) (pair : PlainPairState) → left_settings.lite ≡ false → IsProgramPair alloc left_settings right_settings pair → can_connect (stances_of plain_parts pair) ≡ true
connects alloc left_settings right_settings pair full made = by (stance_of plain_parts pair.left.core).ice.lite (stance_of plain_parts pair.right.core).ice.lite (lite_of alloc left_settings _ _ _ pair.left.core made.left ∙ full)
  where
    by : (left right : Bool) → left ≡ false → not (left && right) ≡ true
    by false right is = refl
    by true right is = absurd (cc)

-- ---- runs of demos

ran_finishes : (alloc : Global) (rounds seed : ℕ) (replies : List (Reply PlainMediaEvent)) (pair : PlainPairState) → rounds ≤ 100 → RanScript alloc (demo_script rounds seed) replies pair → lack_memory replies ≡ false → count_finished replies ≡ rounds
ran_finishes alloc rounds seed replies pair few ran enough =
    demo_finishes plain_parts is_ice_message ran.start rounds seed replies pair few ran.formed (connects alloc (peer_settings Left []) (peer_settings Right []) ran.start refl ran.program) ran.runs enough ran.no_fault

pub performs_demo : (alloc : Global) (rounds seed : ℕ) (script : Script) (replies : List (Reply PlainMediaEvent)) (pair : PlainPairState) (written written' : Option (List ℕ)) (last : Option PlainPairState)
    → rounds ≤ 100 → script ≡ demo_script rounds seed → RanScript alloc script replies pair → TellsCounts rounds script.steps replies pair written written' last → PerformsDemo alloc rounds seed written written' last
performs_demo alloc rounds seed script replies pair written written' last few is ran tells =
    let demo : RanScript alloc (demo_script rounds seed) replies pair = subst (λ (s : Script). RanScript alloc s replies pair) is ran in
    let told : TellsCounts rounds (demo_script rounds seed).steps replies pair written written' last = subst (λ (s : Script). TellsCounts rounds s.steps replies pair written written' last) is tells in
    record {
      replies = replies;
      pair = pair;
      ran = demo;
      tells = told;
      orderly = demo_orderly rounds seed few;
      native = demo_native rounds seed few;
      finished = ran_finishes alloc rounds seed replies pair few demo told.memory;
    }

pub demo_off : (alloc : Global) (rounds seed : ℕ) (script : Script) (replies : List (Reply PlainMediaEvent)) (pair : PlainPairState) (written written' : Option (List ℕ)) (faults faults' : ℕ)
    → rounds ≤ 100 → script ≡ demo_script rounds seed → RanScript alloc script replies pair → BreaksOff (λ text. text ≡ demo_text rounds script.steps replies) written written' faults faults' → BreaksOff (IsDemoText alloc rounds seed) written written' faults faults'
demo_off alloc rounds seed script replies pair written written' faults faults' few is ran off =
    let P : List ℕ → Type 0 = λ (text : List ℕ). text ≡ demo_text rounds script.steps replies in
    let demo : RanScript alloc (demo_script rounds seed) replies pair = subst (λ (s : Script). RanScript alloc s replies pair) is ran in
    breaks_off_as P (IsDemoText alloc rounds seed) written written' faults faults'
    (λ text told. record { replies = replies; pair = pair; ran = demo; native = demo_native rounds seed few; is = subst (λ (s : Script). text ≡ demo_text rounds s.steps replies) is told }) off
