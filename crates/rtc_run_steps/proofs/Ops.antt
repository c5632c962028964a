-- Ops are performed one after another.
use Rattle.std.proofs.Common.{◌≡◌, ◌≢◌, ◌+◌, ◌≤◌, ◌<◌, ℕ, Bool, true, false, List, [], ◌∷◌, ◌++◌, length, Option, Some, Ok, Err, refl, sym, ap, ◌∙◌, subst, append_assoc, append-nil, get_or, drop}
use Rattle.std.specs.Prelude.{slice_get}
use Rattle.std.proofs.lemmas.List.{drop_more}
use Rattle.std.proofs.Math.ListN.{drop_of_length-le}
use Rattle.rtc_wire.specs.declared.channel_config.ChannelConfig.{ChannelConfig}
use Rattle.rtc_sdp_values.specs.declared.direction.Direction.{Direction}
use Rattle.rtc_sdp_values.specs.declared.ice_creds.IceCreds.{IceCreds}
use Rattle.rtc_sdp_values.specs.declared.line_row.LineRow.{LineRow}
use Rattle.rtc_sdp_values.specs.declared.media_kind.MediaKind.{MediaKind}
use Rattle.rtc_peer_rows.specs.RowChanges.{media_mid}
use Rattle.rtc_peer_core.specs.declared.peer.Peer.{Peer}
use Rattle.rtc_peer_core.specs.declared.rtc_error.RtcError.{RtcError}
use Rattle.rtc_peer_core.specs.declared.rtc_error.RtcError.TheVariants.{Net, Media as MediaFailed}
use Rattle.rtc_peer_core.specs.declared.rtc_error.RtcError.TheVariants.{RemoteSdp, Sdp, Dtls, Sctp, ChangesOutOfOrder, BadChannel, Alloc as PeerAlloc, Glare}
use Rattle.rtc_parts.proofs.LaterLemmas.{later_none}
use Rattle.rtc_peer_core.specs.Calls.{AddsMedia, AddsChannel, SetsDirection, StopsMedia, StagesRestart}
use Rattle.rtc_run_history.specs.declared.op.Op.{Op}
use Rattle.rtc_run_history.specs.declared.op.Op.TheVariants.{AddMedia, SetDirection, StopMedia, AddChannel, IceRestart}
use Rattle.rtc_run_history.specs.declared.op_answer.OpAnswer.{OpAnswer}
use Rattle.rtc_run_history.specs.declared.op_answer.OpAnswer.TheVariants.{Mid, Changed, NoLine, Channel, Creds, BadChannel as NoChannel, Alloc}
use Rattle.rtc_run_history.specs.Memory.{answer_lacks}
use Rattle.rtc_run_history.specs.Performs.{PerformsOps, wanted}
use Rattle.rtc_run_steps.specs.RefusedChannel.{refused_channel}
use Rattle.rtc_peer_core.specs.Meanings.{Meanings}

lacking : (answer : OpAnswer) → answer_lacks answer ≡ true → answer ≡ Alloc
lacking (Mid mid) h = absurd cc
lacking (Changed changed) h = absurd cc
lacking NoLine h = absurd cc
lacking (Channel id) h = absurd cc
lacking (Creds creds) h = absurd cc
lacking NoChannel h = absurd cc
lacking Alloc h = refl

module _ {I D S M E X T W N : Type 0} (m : Meanings I D S M E X T W N) where
  -- after an op that did not lack memory, the ops that are left go on
  pub op_done : (p r q : Peer I D S M N) (op : Op) (answer : OpAnswer) (ops : List Op) (more : List OpAnswer) → answer ≢ Alloc → PerformsOps m p (op ∷ []) (answer ∷ []) r → PerformsOps m r ops more q → PerformsOps m p (op ∷ ops) (answer ∷ more) q
  op_done p r q (AddMedia kind dir) (Mid mid) ops more some first then = (first.0, first.1, subst (λ (s : Peer I D S M N). PerformsOps m s ops more q) first.2 then)
  op_done p r q (SetDirection place dir) (Changed changed) ops more some first then = (first.0, first.1, subst (λ (s : Peer I D S M N). PerformsOps m s ops more q) first.2 then)
  op_done p r q (SetDirection place dir) NoLine ops more some first then = (first.0, subst (λ (s : Peer I D S M N). PerformsOps m s ops more q) first.1 then)
  op_done p r q (StopMedia place) (Changed changed) ops more some first then = (first.0, first.1, subst (λ (s : Peer I D S M N). PerformsOps m s ops more q) first.2 then)
  op_done p r q (StopMedia place) NoLine ops more some first then = (first.0, subst (λ (s : Peer I D S M N). PerformsOps m s ops more q) first.1 then)
  op_done p r q (AddChannel config) (Channel id) ops more some first then = (first.0, first.1, subst (λ (s : Peer I D S M N). PerformsOps m s ops more q) first.2 then)
  op_done p r q (AddChannel config) NoChannel ops more some first then = (first.0, first.1, subst (λ (s : Peer I D S M N). PerformsOps m s ops more q) first.2 then)
  op_done p r q (IceRestart keep) (Creds creds) ops more some first then = (first.0, first.1, subst (λ (s : Peer I D S M N). PerformsOps m s ops more q) first.2 then)
  op_done p r q op Alloc ops more some first then = absurd (some refl)
  op_done p r q op answer ops more some first then = absurd first

  -- the first want of memory ends them
  pub op_ends : (p r : Peer I D S M N) (op : Op) (ops : List Op) → PerformsOps m p (op ∷ []) (Alloc ∷ []) r → PerformsOps m p (op ∷ ops) (Alloc ∷ []) r
  op_ends p r (AddMedia kind dir) ops h = h
  op_ends p r (SetDirection place dir) ops h = h
  op_ends p r (StopMedia place) ops h = h
  op_ends p r (AddChannel config) ops h = h
  op_ends p r (IceRestart keep) ops h = h

  -- one op that staged a line
  pub op_once : (p r : Peer I D S M N) (kind : MediaKind) (dir : Direction) (mid : List ℕ) → AddsMedia m p (wanted kind dir) (Ok mid) r → PerformsOps m p (AddMedia kind dir ∷ []) (Mid mid ∷ []) r
  op_once p r kind dir mid h = (r, h, refl)

  -- one op that staged a restart
  pub restart_once : (p r : Peer I D S M N) (keep : Bool) (creds : IceCreds) → StagesRestart m p keep (Ok creds) r → PerformsOps m p (IceRestart keep ∷ []) (Creds creds ∷ []) r
  restart_once p r keep creds h = (r, h, refl)

  -- the line at a place, as a call finds it
  abbrev pub Finds : Peer I D S M N → List LineRow → ℕ → Option (List ℕ) → Type 0
  Finds p rows place found = (rows ≡ p.lines) × (found ≡ media_mid (slice_get rows place))

  finds_there : (p : Peer I D S M N) (rows : List LineRow) (place : ℕ) (found : Option (List ℕ)) (mid : List ℕ) → Finds p rows place found → found ≡ Some mid → media_mid (slice_get p.lines place) ≡ Some mid
  finds_there p rows place found mid finds is = ap (λ (list : List LineRow). media_mid (slice_get list place)) (sym finds.0) ∙ sym finds.1 ∙ is

  -- one op that sets the direction of a line
  pub set_once : (p r : Peer I D S M N) (rows : List LineRow) (place : ℕ) (dir : Direction) (found : Option (List ℕ)) (mid : List ℕ) (changed : Bool)
      → Finds p rows place found → found ≡ Some mid → SetsDirection p mid dir (Ok changed) r → PerformsOps m p (SetDirection place dir ∷ []) (Changed changed ∷ []) r
  set_once p r rows place dir found mid changed finds is h = (r, record { mid = mid; there = finds_there p rows place found mid finds is; called = h }, refl)

  -- one op that stops a line
  pub stop_once : (p r : Peer I D S M N) (rows : List LineRow) (place : ℕ) (found : Option (List ℕ)) (mid : List ℕ) (changed : Bool)
      → Finds p rows place found → found ≡ Some mid → StopsMedia p mid (Ok changed) r → PerformsOps m p (StopMedia place ∷ []) (Changed changed ∷ []) r
  stop_once p r rows place found mid changed finds is h = (r, record { mid = mid; there = finds_there p rows place found mid finds is; called = h }, refl)

  -- one op that staged a channel
  pub channel_once : (p r : Peer I D S M N) (config copy : ChannelConfig) (id : ℕ) → copy ≡ config → AddsChannel m p copy (Ok id) r → PerformsOps m p (AddChannel config ∷ []) (Channel id ∷ []) r
  channel_once p r config copy id same h = (r, subst (λ (opened : ChannelConfig). AddsChannel m p opened (Ok id) r) same h, refl)

  -- and one that staged none
  no_channel : (p r : Peer I D S M N) (config : ChannelConfig) (error : RtcError) → AddsChannel m p config (Err error) r → PerformsOps m p (AddChannel config ∷ []) (refused_channel error ∷ []) r
  no_channel p r config (RemoteSdp why) h = absurd h
  no_channel p r config (Sdp error) h = absurd h
  no_channel p r config (Dtls error) h = absurd h
  no_channel p r config (Sctp error) h = absurd h
  no_channel p r config (Net cause) h = absurd h
  no_channel p r config (MediaFailed cause) h = absurd h
  no_channel p r config ChangesOutOfOrder h = absurd h
  no_channel p r config BadChannel h = (r, h, refl)
  no_channel p r config PeerAlloc h = h
  no_channel p r config Glare h = absurd h

  pub channel_refused : (p r : Peer I D S M N) (config copy : ChannelConfig) (error : RtcError) (answer : OpAnswer) → copy ≡ config → AddsChannel m p copy (Err error) r → answer ≡ refused_channel error → PerformsOps m p (AddChannel config ∷ []) (answer ∷ []) r
  channel_refused p r config copy error answer same h is =
      rw is (no_channel p r config error (subst (λ (opened : ChannelConfig). AddsChannel m p opened (Err error) r) same h))

  -- where memory lacks before the peer is called, it stays
  pub channel_uncopied : (p q : Peer I D S M N) (config : ChannelConfig) → q ≡ p → PerformsOps m p (AddChannel config ∷ []) (Alloc ∷ []) q
  channel_uncopied p q config same = rw same (later_none m.ids p.ids, refl)

  -- the ops go on after one more, in the form of the loop
  pub ops_go_on : (start p r : Peer I D S M N) (ops : List Op) (index : ℕ) (op : Op) (answer : OpAnswer) (room room' : List OpAnswer) → index < length ops → op ≡ get_or ops index op → answer_lacks answer ≡ false → room' ≡ room ++ answer ∷ [] → PerformsOps m p (op ∷ []) (answer ∷ []) r → ((more : List OpAnswer) (q : Peer I D S M N) → PerformsOps m p (drop index ops) more q → PerformsOps m start ops (room ++ more) q) → (more : List OpAnswer) (q : Peer I D S M N) → PerformsOps m r (drop (index + 1) ops) more q → PerformsOps m start ops (room' ++ more) q
  ops_go_on start p r ops index op answer room room' within at is pushed first done more q then =
      let here : drop index ops ≡ op ∷ drop (index + 1) ops = drop_more ops index op within ∙ ap (λ (o : Op). o ∷ drop (index + 1) ops) (sym at) in
      let some : answer ≢ Alloc = λ none. let bad : true ≡ false = sym (ap answer_lacks none) ∙ is in cc in
      let P : List Op → Type 0 = λ (os : List Op). PerformsOps m p os (answer ∷ more) q in
      let rest : PerformsOps m p (drop index ops) (answer ∷ more) q = subst P (sym here) (op_done p r q op answer (drop (index + 1) ops) more some first then) in
      let Q : List OpAnswer → Type 0 = λ (xs : List OpAnswer). PerformsOps m start ops xs q in
      subst Q (sym (ap (λ (xs : List OpAnswer). xs ++ more) pushed ∙ append_assoc room (answer ∷ []) more)) (done (answer ∷ more) q rest)

  -- the first want of memory ends the loop
  pub ops_end : (start p r : Peer I D S M N) (ops : List Op) (index : ℕ) (op : Op) (answer : OpAnswer) (room room' : List OpAnswer) → index < length ops → op ≡ get_or ops index op → answer_lacks answer ≡ true → room' ≡ room ++ answer ∷ [] → PerformsOps m p (op ∷ []) (answer ∷ []) r → ((more : List OpAnswer) (q : Peer I D S M N) → PerformsOps m p (drop index ops) more q → PerformsOps m start ops (room ++ more) q) → PerformsOps m start ops room' r
  ops_end start p r ops index op answer room room' within at lacks pushed first done =
      let here : drop index ops ≡ op ∷ drop (index + 1) ops = drop_more ops index op within ∙ ap (λ (o : Op). o ∷ drop (index + 1) ops) (sym at) in
      let is : answer ≡ Alloc = lacking answer lacks in
      let F : OpAnswer → Type 0 = λ (a : OpAnswer). PerformsOps m p (op ∷ []) (a ∷ []) r in
      let ends : PerformsOps m p (op ∷ drop (index + 1) ops) (Alloc ∷ []) r = op_ends p r op (drop (index + 1) ops) (subst F is first) in
      let P : List Op → Type 0 = λ (os : List Op). PerformsOps m p os (Alloc ∷ []) r in
      let rest : PerformsOps m p (drop index ops) (Alloc ∷ []) r = subst P (sym here) ends in
      let Q : List OpAnswer → Type 0 = λ (xs : List OpAnswer). PerformsOps m start ops xs r in
      subst Q (sym (pushed ∙ ap (λ (a : OpAnswer). room ++ a ∷ []) is)) (done (Alloc ∷ []) r rest)

  -- after the last op
  pub ops_all : (start p : Peer I D S M N) (ops : List Op) (index : ℕ) (room : List OpAnswer) → length ops ≤ index → ((more : List OpAnswer) (q : Peer I D S M N) → PerformsOps m p (drop index ops) more q → PerformsOps m start ops (room ++ more) q) → PerformsOps m start ops room p
  ops_all start p ops index room past done =
      let none_left : drop index ops ≡ [] = drop_of_length-le ops past in
      let P : List Op → Type 0 = λ (os : List Op). PerformsOps m p os [] p in
      let Q : List OpAnswer → Type 0 = λ (xs : List OpAnswer). PerformsOps m start ops xs p in
      subst Q (append-nil room) (done [] p (subst P (sym none_left) refl))
