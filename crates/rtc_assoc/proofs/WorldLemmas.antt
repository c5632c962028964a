-- Runs of steps as runs of moves.
use Rattle.std.proofs.Common.{ℕ, ◌≡◌, ◌+◌, ◌<◌, ◌≤◌, not, inl, inr, Bool, true, false, List, [], ◌∷◌, ◌++◌, length, take, get_or, Some, refl, sym, ap, subst, ◌∙◌, append_assoc, append-nil, arith}
use Rattle.std.proofs.lemmas.List.{take_more, take_all}
use Rattle.rtc_parts.specs.declared.ppi.Ppi.{Ppi}
use Rattle.rtc_parts.specs.Among.{Member, Among}
use Rattle.rtc_parts.specs.Why.{Other}
use Rattle.rtc_parts.specs.AssociationActs.{AssociationAct, Stirred, LimitsSet, Moved, moved-one}
use Rattle.rtc_parts.specs.AssociationWords.{AssociationMessage, given, taken, written, read, told, completions}
use Rattle.rtc_parts.proofs.AmongLemmas.{member-append, member-left, member-right}
use Rattle.rtc_parts.proofs.AssociationLemmas.{taken-append, written-append, read-append, told-append}
use Rattle.rtc_assoc_state.specs.Contents.{Contents, fresh_contents, generation_of}
use Rattle.rtc_assoc_state.specs.Calls.{limited}
use Rattle.rtc_assoc_state.specs.PlainMeaning.{plain_meaning}
use Rattle.rtc_assoc.specs.declared.sent.Sent.{Sent}
use Rattle.rtc_assoc.specs.declared.assoc_step.AssocStep.{AssocStep}
use Rattle.rtc_assoc.specs.declared.assoc_step.AssocStep.TheVariants.{Read}
use Rattle.rtc_assoc.specs.declared.assoc_reply.AssocReply.{AssocReply}
use Rattle.rtc_assoc.specs.declared.assoc_reply.AssocReply.TheVariants.{Message, NoSuch}
use Rattle.rtc_assoc.specs.Unread.{unread, IsPrefix}
use Rattle.rtc_assoc.specs.Joined.{Ends, fresh_ends, Move, LeftMoves, RightMoves, Goes, Run}
use Rattle.rtc_assoc.specs.Steps.{at_left, PerformsAssocStep, World, Steps, Ran, first_world}
use Rattle.rtc_parts.specs.Among.{Member}
use Rattle.rtc_assoc.specs.Replies.{wrote_by, read_by, told_by, written_in, read_in, told_in}
use Rattle.rtc_assoc.specs.Law.{OneWay, TellsEvents}
use Rattle.rtc_assoc.proofs.ActLemmas.{sent, sents, acts_of, elsewhere}
use Rattle.rtc_assoc.proofs.DirectedLemmas.{directed_prefix, directed_open}
use Rattle.rtc_assoc.proofs.RunLemmas.{both_run, moved_run, resets_told, Events, events_by}

-- one step more
pub ran_more : (steps : List AssocStep) (replies : List AssocReply) (w u v : World) (step : AssocStep) (reply : AssocReply) → Ran steps replies w u → Steps (at_left step) step reply u v → Ran (steps ++ step ∷ []) (replies ++ reply ∷ []) w v
ran_more [] [] w u v step reply r h = (v, (subst (λ (x : World). Steps (at_left step) step reply x v) r h, refl))
ran_more [] (y ∷ replies) w u v step reply r h = absurd r
ran_more (x ∷ steps) [] w u v step reply r h = absurd r
ran_more (x ∷ steps) (y ∷ replies) w u v step reply r h = (r.0, (r.1.0, ran_more steps replies r.0 u v step reply r.1.1 h))

pub ran_next : (steps : List AssocStep) (replies : List AssocReply) (i : ℕ) (w u v : World) (step : AssocStep) (reply : AssocReply) → i < length steps → step ≡ get_or steps i step → Ran (take i steps) replies w u → Steps (at_left step) step reply u v → Ran (take (i + 1) steps) (replies ++ reply ∷ []) w v
ran_next steps replies i w u v step reply h e r k =
    let t : take (i + 1) steps ≡ take i steps ++ step ∷ [] = take_more steps i step h ∙ ap (λ y. take i steps ++ y ∷ []) (sym e) in
    subst (λ (l : List AssocStep). Ran l (replies ++ reply ∷ []) w v) (sym t) (ran_more (take i steps) replies w u v step reply r k)

pub ran_all : (steps : List AssocStep) (replies : List AssocReply) (i : ℕ) (w v : World) → length steps ≤ i → Ran (take i steps) replies w v → Ran steps replies w v
ran_all steps replies i w v h r = subst (λ (l : List AssocStep). Ran l replies w v) (take_all i steps h) r

-- the packets of both ends are those that their acts took
pub record SentSo (packets : List Sent) (x y : List AssociationAct) : Type 0 where
  pub from_left : (bytes : List ℕ) → Member (sent true bytes) packets → Member bytes (taken x)
  pub from_right : (bytes : List ℕ) → Member (sent false bytes) packets → Member bytes (taken y)

sents_same : (b : Bool) (bytes : List ℕ) (l : List (List ℕ)) → Member (sent b bytes) (sents b l) → Member bytes l
sents_same b bytes [] m = absurd m
sents_same b bytes (x ∷ l) (inl e) = inl (ap (λ (s : Sent). s.bytes) e)
sents_same b bytes (x ∷ l) (inr m) = inr (sents_same b bytes l m)

sents_other : (b c : Bool) (bytes : List ℕ) (l : List (List ℕ)) → (c ≡ b → ⊥) → Member (sent c bytes) (sents b l) → ⊥
sents_other b c bytes [] n m = m
sents_other b c bytes (x ∷ l) n (inl e) = n (ap (λ (s : Sent). s.from_left) e)
sents_other b c bytes (x ∷ l) n (inr m) = sents_other b c bytes l n m

left_not_right : true ≡ false → ⊥
left_not_right e = cc

right_not_left : false ≡ true → ⊥
right_not_left e = cc

-- some acts of one end more
pub record OneStep (moves : List Move) (x y : List AssociationAct) (step : AssocStep) (reply : AssocReply) (u : World) : Type 0 where
  pub left_more : List AssociationAct
  pub right_more : List AssociationAct
  pub more : List Move
  pub run : Run more (record { left = u.left; right = u.right; left_acts = x ++ left_more; right_acts = y ++ right_more })
  pub sent_so : SentSo u.packets (x ++ left_more) (y ++ right_more)
  pub wrote_left : (s g : ℕ) → written s g left_more ≡ wrote_by step reply true s g
  pub wrote_right : (s g : ℕ) → written s g right_more ≡ wrote_by step reply false s g
  pub read_left : (s g : ℕ) → read s g left_more ≡ read_by step reply true s g
  pub read_right : (s g : ℕ) → read s g right_more ≡ read_by step reply false s g
  pub told_left : told left_more ≡ told_by step reply true
  pub told_right : told right_more ≡ told_by step reply false

abbrev ends : World → (x y : List AssociationAct) → Ends
ends w x y = record { left = w.left; right = w.right; left_acts = x; right_acts = y }

one_left : (moves : List Move) (x y : List AssociationAct) (step : AssocStep) (reply : AssocReply) (w u : World) → at_left step ≡ true → PerformsAssocStep step reply w.left u.left w.packets u.packets → u.right ≡ w.right → Run moves (ends w x y) → SentSo w.packets x y → OneStep moves x y step reply u
one_left moves x y step reply w u e h same r k =
    let a = acts_of step reply w.left u.left w.packets u.packets h in
    let o = elsewhere step reply in
    let gives : Among (given a.acts) (taken y) = record { each = λ bytes m. k.from_right bytes (subst (λ (b : Bool). Member (sent (not b) bytes) w.packets) e (a.gives bytes m)) } in
    let packets_are : u.packets ≡ w.packets ++ sents true (taken a.acts) = a.takes ∙ ap (λ b. w.packets ++ sents b (taken a.acts)) e in
    let goes : Goes (ends w x y) (LeftMoves a.acts) (record { left = u.left; right = w.right; left_acts = x ++ a.acts; right_acts = y }) = (a.moved, gives, refl) in
    let right_is : Run (LeftMoves a.acts ∷ moves) (record { left = u.left; right = w.right; left_acts = x ++ a.acts; right_acts = y }) = (ends w x y, (r, goes)) in
    record {
      left_more = a.acts;
      right_more = [];
      more = LeftMoves a.acts ∷ moves;
      run = subst (λ (l : List AssociationAct). Run (LeftMoves a.acts ∷ moves) (record { left = u.left; right = u.right; left_acts = x ++ a.acts; right_acts = l })) (sym (append-nil y))
          (subst (λ (c : Contents). Run (LeftMoves a.acts ∷ moves) (record { left = u.left; right = c; left_acts = x ++ a.acts; right_acts = y })) (sym same) right_is);
      sent_so = record {
        from_left = λ bytes m. subst (λ (l : List (List ℕ)). Member bytes l) (sym (taken-append x a.acts)) (elim (member-append (sent true bytes) w.packets (sents true (taken a.acts)) (subst (λ (l : List Sent). Member (sent true bytes) l) packets_are m)) [
          | inl n ↦ member-left bytes (taken x) (taken a.acts) (k.from_left bytes n)
          | inr n ↦ member-right bytes (taken x) (taken a.acts) (sents_same true bytes (taken a.acts) n)
        ]);
        from_right = λ bytes m. subst (λ (l : List AssociationAct). Member bytes (taken l)) (sym (append-nil y)) (elim (member-append (sent false bytes) w.packets (sents true (taken a.acts)) (subst (λ (l : List Sent). Member (sent false bytes) l) packets_are m)) [
          | inl n ↦ k.from_right bytes n
          | inr n ↦ absurd (sents_other true false bytes (taken a.acts) right_not_left n)
        ]);
      };
      wrote_left = λ s g. a.wrote s g ∙ ap (λ b. wrote_by step reply b s g) e;
      wrote_right = λ s g. sym (o.writes s g) ∙ ap (λ b. wrote_by step reply (not b) s g) e;
      read_left = λ s g. a.read_is s g ∙ ap (λ b. read_by step reply b s g) e;
      read_right = λ s g. sym (o.reads s g) ∙ ap (λ b. read_by step reply (not b) s g) e;
      told_left = a.told_is ∙ ap (λ b. told_by step reply b) e;
      told_right = sym o.tells ∙ ap (λ b. told_by step reply (not b)) e;
    }

one_right : (moves : List Move) (x y : List AssociationAct) (step : AssocStep) (reply : AssocReply) (w u : World) → at_left step ≡ false → PerformsAssocStep step reply w.right u.right w.packets u.packets → u.left ≡ w.left → Run moves (ends w x y) → SentSo w.packets x y → OneStep moves x y step reply u
one_right moves x y step reply w u e h same r k =
    let a = acts_of step reply w.right u.right w.packets u.packets h in
    let o = elsewhere step reply in
    let gives : Among (given a.acts) (taken x) = record { each = λ bytes m. k.from_left bytes (subst (λ (b : Bool). Member (sent (not b) bytes) w.packets) e (a.gives bytes m)) } in
    let packets_are : u.packets ≡ w.packets ++ sents false (taken a.acts) = a.takes ∙ ap (λ b. w.packets ++ sents b (taken a.acts)) e in
    let goes : Goes (ends w x y) (RightMoves a.acts) (record { left = w.left; right = u.right; left_acts = x; right_acts = y ++ a.acts }) = (a.moved, gives, refl) in
    let left_is : Run (RightMoves a.acts ∷ moves) (record { left = w.left; right = u.right; left_acts = x; right_acts = y ++ a.acts }) = (ends w x y, (r, goes)) in
    record {
      left_more = [];
      right_more = a.acts;
      more = RightMoves a.acts ∷ moves;
      run = subst (λ (l : List AssociationAct). Run (RightMoves a.acts ∷ moves) (record { left = u.left; right = u.right; left_acts = l; right_acts = y ++ a.acts })) (sym (append-nil x))
          (subst (λ (c : Contents). Run (RightMoves a.acts ∷ moves) (record { left = c; right = u.right; left_acts = x; right_acts = y ++ a.acts })) (sym same) left_is);
      sent_so = record {
        from_left = λ bytes m. subst (λ (l : List AssociationAct). Member bytes (taken l)) (sym (append-nil x)) (elim (member-append (sent true bytes) w.packets (sents false (taken a.acts)) (subst (λ (l : List Sent). Member (sent true bytes) l) packets_are m)) [
          | inl n ↦ k.from_left bytes n
          | inr n ↦ absurd (sents_other false true bytes (taken a.acts) left_not_right n)
        ]);
        from_right = λ bytes m. subst (λ (l : List (List ℕ)). Member bytes l) (sym (taken-append y a.acts)) (elim (member-append (sent false bytes) w.packets (sents false (taken a.acts)) (subst (λ (l : List Sent). Member (sent false bytes) l) packets_are m)) [
          | inl n ↦ member-left bytes (taken y) (taken a.acts) (k.from_right bytes n)
          | inr n ↦ member-right bytes (taken y) (taken a.acts) (sents_same false bytes (taken a.acts) n)
        ]);
      };
      wrote_left = λ s g. sym (o.writes s g) ∙ ap (λ b. wrote_by step reply (not b) s g) e;
      wrote_right = λ s g. a.wrote s g ∙ ap (λ b. wrote_by step reply b s g) e;
      read_left = λ s g. sym (o.reads s g) ∙ ap (λ b. read_by step reply (not b) s g) e;
      read_right = λ s g. a.read_is s g ∙ ap (λ b. read_by step reply b s g) e;
      told_left = sym o.tells ∙ ap (λ b. told_by step reply (not b)) e;
      told_right = a.told_is ∙ ap (λ b. told_by step reply b) e;
    }

one_step : (moves : List Move) (x y : List AssociationAct) (step : AssocStep) (reply : AssocReply) (w u : World) (b : Bool) → at_left step ≡ b → Steps b step reply w u → Run moves (ends w x y) → SentSo w.packets x y → OneStep moves x y step reply u
one_step moves x y step reply w u true e h r k = one_left moves x y step reply w u e h.0 h.1 r k
one_step moves x y step reply w u false e h r k = one_right moves x y step reply w u e h.0 h.1 r k

-- what the acts wrote, read and told is what the steps and replies say
pub record Grew (x y : List AssociationAct) (steps : List AssocStep) (replies : List AssocReply) (v : World) : Type 0 where
  pub moves : List Move
  pub left_acts : List AssociationAct
  pub right_acts : List AssociationAct
  pub run : Run moves (ends v left_acts right_acts)
  pub wrote_left : (s g : ℕ) → written s g left_acts ≡ written s g x ++ written_in steps replies true s g
  pub wrote_right : (s g : ℕ) → written s g right_acts ≡ written s g y ++ written_in steps replies false s g
  pub read_left : (s g : ℕ) → read s g left_acts ≡ read s g x ++ read_in steps replies true s g
  pub read_right : (s g : ℕ) → read s g right_acts ≡ read s g y ++ read_in steps replies false s g
  pub told_left : told left_acts ≡ told x ++ told_in steps replies true
  pub told_right : told right_acts ≡ told y ++ told_in steps replies false

joins_lists : (all first own more rest : List AssociationMessage) → all ≡ (first ++ own) ++ rest → own ≡ more → all ≡ first ++ (more ++ rest)
joins_lists all first own more rest e f = e ∙ append_assoc first own rest ∙ ap (λ l. first ++ (l ++ rest)) f

pub grew : (steps : List AssocStep) (replies : List AssocReply) (w v : World) (moves : List Move) (x y : List AssociationAct) → Ran steps replies w v → Run moves (ends w x y) → SentSo w.packets x y → Grew x y steps replies v
grew [] [] w v moves x y h r k = subst (Grew x y [] []) (sym h) (record {
  moves = moves;
  left_acts = x;
  right_acts = y;
  run = r;
  wrote_left = λ s g. sym (append-nil (written s g x));
  wrote_right = λ s g. sym (append-nil (written s g y));
  read_left = λ s g. sym (append-nil (read s g x));
  read_right = λ s g. sym (append-nil (read s g y));
  told_left = sym (append-nil (told x));
  told_right = sym (append-nil (told y));
})
grew [] (reply ∷ replies) w v moves x y h r k = absurd h
grew (step ∷ steps) [] w v moves x y h r k = absurd h
grew (step ∷ steps) (reply ∷ replies) w v moves x y h r k =
    let one = one_step moves x y step reply w h.0 (at_left step) refl h.1.0 r k in
    let rest = grew steps replies h.0 v one.more (x ++ one.left_more) (y ++ one.right_more) h.1.1 one.run one.sent_so in
    record {
      moves = rest.moves;
      left_acts = rest.left_acts;
      right_acts = rest.right_acts;
      run = rest.run;
      wrote_left = λ s g. joins_lists (written s g rest.left_acts) (written s g x) (written s g one.left_more) (wrote_by step reply true s g) (written_in steps replies true s g) (rest.wrote_left s g ∙ ap (λ l. l ++ written_in steps replies true s g) (written-append s g x one.left_more)) (one.wrote_left s g);
      wrote_right = λ s g. joins_lists (written s g rest.right_acts) (written s g y) (written s g one.right_more) (wrote_by step reply false s g) (written_in steps replies false s g) (rest.wrote_right s g ∙ ap (λ l. l ++ written_in steps replies false s g) (written-append s g y one.right_more)) (one.wrote_right s g);
      read_left = λ s g. joins_lists (read s g rest.left_acts) (read s g x) (read s g one.left_more) (read_by step reply true s g) (read_in steps replies true s g) (rest.read_left s g ∙ ap (λ l. l ++ read_in steps replies true s g) (read-append s g x one.left_more)) (one.read_left s g);
      read_right = λ s g. joins_lists (read s g rest.right_acts) (read s g y) (read s g one.right_more) (read_by step reply false s g) (read_in steps replies false s g) (rest.read_right s g ∙ ap (λ l. l ++ read_in steps replies false s g) (read-append s g y one.right_more)) (one.read_right s g);
      told_left = rest.told_left ∙ ap (λ l. l ++ told_in steps replies true) (told-append x one.left_more ∙ ap (λ l. told x ++ l) one.told_left) ∙ append_assoc (told x) (told_by step reply true) (told_in steps replies true);
      told_right = rest.told_right ∙ ap (λ l. l ++ told_in steps replies false) (told-append y one.right_more ∙ ap (λ l. told y ++ l) one.told_right) ∙ append_assoc (told y) (told_by step reply false) (told_in steps replies false);
    }

-- the limits are set at both ends first
abbrev limits_acts : List AssociationAct
limits_acts = Stirred Other ∷ []

limits_moved : (max_payload : ℕ) → Moved plain_meaning fresh_contents limits_acts (limited max_payload 262144 fresh_contents)
limits_moved max_payload = moved-one plain_meaning fresh_contents (limited max_payload 262144 fresh_contents) (Stirred Other) (LimitsSet max_payload 262144 refl)

no_packets : Among {A = List ℕ} [] []
no_packets = record { each = λ x m. absurd m }

first_run : (max_payload : ℕ) → Run (RightMoves limits_acts ∷ LeftMoves limits_acts ∷ []) (ends (first_world max_payload) limits_acts limits_acts)
first_run max_payload =
    let p = limited max_payload 262144 fresh_contents in
    (record { left = p; right = fresh_contents; left_acts = limits_acts; right_acts = [] }, ((fresh_ends, (refl, (limits_moved max_payload, no_packets, refl))), (limits_moved max_payload, no_packets, refl)))

pub grown : (max_payload : ℕ) (steps : List AssocStep) (replies : List AssocReply) (v : World) → Ran steps replies (first_world max_payload) v → Grew limits_acts limits_acts steps replies v
grown max_payload steps replies v h = grew steps replies (first_world max_payload) v (RightMoves limits_acts ∷ LeftMoves limits_acts ∷ []) limits_acts limits_acts h (first_run max_payload) (record { from_left = λ bytes m. absurd m; from_right = λ bytes m. absurd m })

-- the law, from one end to the other
pub one_way_left : (max_payload : ℕ) (steps : List AssocStep) (replies : List AssocReply) (v : World) → Ran steps replies (first_world max_payload) v → OneWay steps replies true v.left v.right
one_way_left max_payload steps replies v r =
    let k = grown max_payload steps replies v r in
    let h = both_run k.moves (ends v k.left_acts k.right_acts) k.run in
    record {
      begins = λ s g. subst (λ (l : List AssociationMessage). IsPrefix l (written_in steps replies true s g)) (k.read_right s g) (subst (λ (l : List AssociationMessage). IsPrefix (read s g k.right_acts) l) (k.wrote_left s g) (directed_prefix h.there v.left v.right k.left_acts k.right_acts s g h.forth_is));
      all = λ s g l e. ap (λ l. l ++ unread s g v.right.inbox.unread) (sym (k.read_right s g)) ∙ directed_open h.there v.left v.right k.left_acts k.right_acts s g h.forth_is l e ∙ k.wrote_left s g;
    }

pub one_way_right : (max_payload : ℕ) (steps : List AssocStep) (replies : List AssocReply) (v : World) → Ran steps replies (first_world max_payload) v → OneWay steps replies false v.right v.left
one_way_right max_payload steps replies v r =
    let k = grown max_payload steps replies v r in
    let h = both_run k.moves (ends v k.left_acts k.right_acts) k.run in
    record {
      begins = λ s g. subst (λ (l : List AssociationMessage). IsPrefix l (written_in steps replies false s g)) (k.read_left s g) (subst (λ (l : List AssociationMessage). IsPrefix (read s g k.left_acts) l) (k.wrote_right s g) (directed_prefix h.back v.right v.left k.right_acts k.left_acts s g h.back_is));
      all = λ s g l e. ap (λ l. l ++ unread s g v.left.inbox.unread) (sym (k.read_left s g)) ∙ directed_open h.back v.right v.left k.right_acts k.left_acts s g h.back_is l e ∙ k.wrote_right s g;
    }

-- completed resets
abbrev end_at : Bool → World → Contents
end_at true v = v.left
end_at false v = v.right

told_most : (at : Bool) (max_payload : ℕ) (steps : List AssocStep) (replies : List AssocReply) (v : World) (s : ℕ) → Ran steps replies (first_world max_payload) v → completions s (told_in steps replies at) ≤ generation_of (end_at at v) s
told_most true max_payload steps replies v s r =
    let k = grown max_payload steps replies v r in
    let m = moved_run k.moves (ends v k.left_acts k.right_acts) k.run in
    omega (arith, ap (completions s) k.told_left, resets_told v.left k.left_acts s m.left_moved)
told_most false max_payload steps replies v s r =
    let k = grown max_payload steps replies v r in
    let m = moved_run k.moves (ends v k.left_acts k.right_acts) k.run in
    omega (arith, ap (completions s) k.told_right, resets_told v.right k.right_acts s m.right_moved)

-- a step in the middle
pub record Middle (earlier : List AssocStep) (said : List AssocReply) (step : AssocStep) (reply : AssocReply) (w : World) : Type 0 where
  pub before : World
  pub after : World
  pub ran : Ran earlier said w before
  pub stepped : Steps (at_left step) step reply before after

ran_split : (earlier later : List AssocStep) (said after : List AssocReply) (step : AssocStep) (reply : AssocReply) (w v : World) → length said ≡ length earlier → Ran (earlier ++ step ∷ later) (said ++ reply ∷ after) w v → Middle earlier said step reply w
ran_split [] later [] after step reply w v e r = record { before = w; after = r.0; ran = refl; stepped = r.1.0 }
ran_split [] later (y ∷ said) after step reply w v e r = absurd (omega (arith, e))
ran_split (x ∷ earlier) later [] after step reply w v e r = absurd (omega (arith, e))
ran_split (x ∷ earlier) later (y ∷ said) after step reply w v e r =
    let rest = ran_split earlier later said after step reply r.0 v (omega (arith, e)) r.1.1 in
    record { before = rest.before; after = rest.after; ran = (r.0, (r.1.0, rest.ran)); stepped = rest.stepped }

read_generation : (at : Bool) (s g : ℕ) (message : Ppi × List ℕ) (p q : Contents) (packets after : List Sent) → PerformsAssocStep (Read at s) (Message g (Some message)) p q packets after → g ≡ generation_of p s
read_generation at s g message p q packets after h = elim h.0 [ inl k ↦ absurd (let e : Message g (Some message) ≡ NoSuch = k.1 in cc) | inr k ↦ k.1.0 ]

stepped_read : (at : Bool) (s g : ℕ) (message : Ppi × List ℕ) (w u : World) → Steps at (Read at s) (Message g (Some message)) w u → g ≡ generation_of (end_at at w) s
stepped_read true s g message w u h = read_generation true s g message w.left u.left w.packets u.packets h.0
stepped_read false s g message w u h = read_generation false s g message w.right u.right w.packets u.packets h.0

told_before : (at : Bool) (max_payload : ℕ) (steps : List AssocStep) (replies : List AssocReply) (v : World) (s g : ℕ) (message : Ppi × List ℕ) (earlier later : List AssocStep) (said after : List AssocReply) → Ran steps replies (first_world max_payload) v → steps ≡ earlier ++ Read at s ∷ later → replies ≡ said ++ Message g (Some message) ∷ after → length said ≡ length earlier → completions s (told_in earlier said at) ≤ g
told_before at max_payload steps replies v s g message earlier later said after r e f n =
    let P : List AssocStep → Type 0 = λ l. Ran l replies (first_world max_payload) v in
    let Q : List AssocReply → Type 0 = λ l. Ran (earlier ++ Read at s ∷ later) l (first_world max_payload) v in
    let m = ran_split earlier later said after (Read at s) (Message g (Some message)) (first_world max_payload) v n (subst Q f (subst P e r)) in
    omega (arith, told_most at max_payload earlier said m.before s m.ran, stepped_read at s g message m.before m.after m.stepped)

events_told : (at : Bool) (max_payload : ℕ) (steps : List AssocStep) (replies : List AssocReply) (v : World) → Ran steps replies (first_world max_payload) v → Events (told_in steps replies at) (end_at at v)
events_told true max_payload steps replies v r =
    let k = grown max_payload steps replies v r in
    events_by v.left k.left_acts (told_in steps replies true) (moved_run k.moves (ends v k.left_acts k.right_acts) k.run).left_moved k.told_left
events_told false max_payload steps replies v r =
    let k = grown max_payload steps replies v r in
    events_by v.right k.right_acts (told_in steps replies false) (moved_run k.moves (ends v k.left_acts k.right_acts) k.run).right_moved k.told_right

pub told_once : (at : Bool) (max_payload : ℕ) (steps : List AssocStep) (replies : List AssocReply) (v : World) → Ran steps replies (first_world max_payload) v → TellsEvents steps replies at (end_at at v)
told_once at max_payload steps replies v r = record {
  most = λ s. told_most at max_payload steps replies v s r;
  in_order = (events_told at max_payload steps replies v r).in_order;
  readable = (events_told at max_payload steps replies v r).readable;
  before = λ s g message earlier later said after e f n. told_before at max_payload steps replies v s g message earlier later said after r e f n;
}
