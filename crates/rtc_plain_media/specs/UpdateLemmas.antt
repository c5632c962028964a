-- Lines after updates, after removals and after writes of marks, by their mids.
use Rattle.std.proofs.Common.{◌≡◌, ℕ, Bool, true, false, not, cond, Option, Some, None, List, [], ◌∷◌, refl, sym, ap, ◌∙◌, true≢false}
use Rattle.std.specs.Cmp.Lexicographic.{bytes_decides}
use Rattle.std.specs.Map.{lookup}
use Rattle.std.specs.Option.{option_map}
use Rattle.indexmap.specs.IndexMap.{insert_entry}
use Rattle.rtc_parts.specs.declared.media_update.MediaUpdate.{MediaUpdate}
use Rattle.rtc_parts.specs.MediaUpdates.{same_mid, update_mid, latest, removed_by, line_after}
use Rattle.rtc_plain_media.specs.declared.plain_mark.PlainMark.{PlainMark}
use Rattle.rtc_plain_media.specs.declared.line_key.LineKey.{LineKey}
use Rattle.rtc_plain_media.specs.declared.held_line.HeldLine.{HeldLine}
use Rattle.rtc_plain_media.specs.Lines.{Lines, same_key, key_of, held_line, writer_mark, set_line, lines_after, without_lines}
use Rattle.rtc_plain_media.specs.MediaContents.{MediaContents, update_of}
use Rattle.rtc_plain_media.specs.MediaCalls.{applied, line_dropped, writer_marked}

-- two mids are the same by their bytes exactly if they are equal
pub same_is : (a b : List ℕ) → same_mid a b ≡ true → a ≡ b
same_is a b h = (bytes_decides a b).0 h

pub is_same : (a b : List ℕ) → a ≡ b → same_mid a b ≡ true
is_same a b h = (bytes_decides a b).1 h

-- choices between three values
cond_swap : {A : Type 0} (a b : Bool) (x y z : A) → (a ≡ true → b ≡ true → ⊥) → cond a x (cond b y z) ≡ cond b y (cond a x z)
cond_swap true true x y z n = absurd (n refl refl)
cond_swap true false x y z n = refl
cond_swap false true x y z n = refl
cond_swap false false x y z n = refl

cond_again : {A : Type 0} (a : Bool) (x y z : A) → cond a x z ≡ cond a x (cond a y z)
cond_again true x y z = refl
cond_again false x y z = refl

cond_either : {A : Type 0} (a : Bool) (x : A) → x ≡ cond a x x
cond_either true x = refl
cond_either false x = refl

cond_dropped : {A : Type 0} (g s : Bool) (none x z : A) → (s ≡ true → g ≡ true) → cond g none z ≡ cond g none (cond s x z)
cond_dropped true s none x z n = refl
cond_dropped false true none x z n = absurd (true≢false (sym (n refl)))
cond_dropped false false none x z n = refl

cond_kept : {A : Type 0} (g s : Bool) (none x z : A) → (s ≡ true → g ≡ false) → cond s x (cond g none z) ≡ cond g none (cond s x z)
cond_kept true true none x z n = absurd (true≢false (n refl))
cond_kept false true none x z n = refl
cond_kept g false none x z n = refl

-- a look-up after an entry took its place
look_set : (mid : List ℕ) (k : LineKey) (v : HeldLine) (ls : Lines)
    → lookup (same_key (key_of mid)) (insert_entry same_key ls k v)
    ≡ cond (same_mid mid k.mid) (Some v) (lookup (same_key (key_of mid)) ls)
look_set mid k v [] = refl
look_set mid k v (e ∷ es) = by (same_key k e.0) refl (look_set mid k v es)
  where
    by : (b : Bool) → same_key k e.0 ≡ b → lookup (same_key (key_of mid)) (insert_entry same_key es k v)
        ≡ cond (same_mid mid k.mid) (Some v) (lookup (same_key (key_of mid)) es)
        → lookup (same_key (key_of mid)) (insert_entry same_key (e ∷ es) k v)
        ≡ cond (same_mid mid k.mid) (Some v) (lookup (same_key (key_of mid)) (e ∷ es))
    by true is more =
        ap (λ (t : Bool). lookup (same_key (key_of mid)) (cond t ((e.0, v) ∷ es) (e ∷ insert_entry same_key es k v))) is
        ∙ cond_again (same_mid mid e.0.mid) (Some v) (Some e.1) (lookup (same_key (key_of mid)) es)
        ∙ ap (λ (m : List ℕ). cond (same_mid mid m) (Some v) (cond (same_mid mid e.0.mid) (Some e.1) (lookup (same_key (key_of mid)) es)))
        (sym (same_is k.mid e.0.mid is))
    by false is more =
        ap (λ (t : Bool). lookup (same_key (key_of mid)) (cond t ((e.0, v) ∷ es) (e ∷ insert_entry same_key es k v))) is
        ∙ ap (λ (l : Option HeldLine). cond (same_mid mid e.0.mid) (Some e.1) l) more
        ∙ cond_swap (same_mid mid e.0.mid) (same_mid mid k.mid) (Some e.1) (Some v) (lookup (same_key (key_of mid)) es)
        (λ a b. true≢false (sym (is_same k.mid e.0.mid (sym (same_is mid k.mid b) ∙ same_is mid e.0.mid a)) ∙ is))

-- the update of a line
abbrev pub its_update : Option HeldLine → Option MediaUpdate
its_update = option_map (λ (line : HeldLine). line.update)

update_cond : (b : Bool) (v : HeldLine) (z : Option HeldLine) → its_update (cond b (Some v) z) ≡ cond b (Some v.update) (its_update z)
update_cond true v z = refl
update_cond false v z = refl

-- the update of a mid after updates in turn is the latest
pub update-lines_after : (mid : List ℕ) (us : List MediaUpdate) (ls : Lines) → its_update (held_line mid (lines_after us ls))
    ≡ latest mid us (its_update (held_line mid ls))
update-lines_after mid [] ls = refl
update-lines_after mid (u ∷ us) ls =
    let v : HeldLine = record { update = u; mark = writer_mark (held_line (update_mid u) ls) } in
    update-lines_after mid us (set_line u ls)
    ∙ ap (latest mid us)
    (ap its_update (look_set mid (key_of (update_mid u)) v ls) ∙ update_cond (same_mid mid (update_mid u)) v (held_line mid ls))

-- a look-up after lines were dropped
pub look_without : (mid : List ℕ) (gone : List ℕ → Bool) (ls : Lines) → lookup (same_key (key_of mid)) (without_lines gone ls)
    ≡ cond (gone mid) None (lookup (same_key (key_of mid)) ls)
look_without mid gone [] = cond_either (gone mid) None
look_without mid gone (e ∷ es) = by (gone e.0.mid) refl (look_without mid gone es)
  where
    by : (b : Bool) → gone e.0.mid ≡ b → lookup (same_key (key_of mid)) (without_lines gone es)
        ≡ cond (gone mid) None (lookup (same_key (key_of mid)) es)
        → lookup (same_key (key_of mid)) (without_lines gone (e ∷ es)) ≡ cond (gone mid) None (lookup (same_key (key_of mid)) (e ∷ es))
    by true is more =
        ap (λ (t : Bool). lookup (same_key (key_of mid)) (cond (not t) (e ∷ without_lines gone es) (without_lines gone es))) is ∙ more
        ∙ cond_dropped (gone mid) (same_mid mid e.0.mid) None (Some e.1) (lookup (same_key (key_of mid)) es)
        (λ s. ap gone (same_is mid e.0.mid s) ∙ is)
    by false is more =
        ap (λ (t : Bool). lookup (same_key (key_of mid)) (cond (not t) (e ∷ without_lines gone es) (without_lines gone es))) is
        ∙ ap (λ (l : Option HeldLine). cond (same_mid mid e.0.mid) (Some e.1) l) more
        ∙ cond_kept (gone mid) (same_mid mid e.0.mid) None (Some e.1) (lookup (same_key (key_of mid)) es)
        (λ s. ap gone (same_is mid e.0.mid s) ∙ is)

update_none : (b : Bool) (z : Option HeldLine) → its_update (cond b None z) ≡ cond b None (its_update z)
update_none true z = refl
update_none false z = refl

-- a commit leaves the line of a mid as the updates say
pub line-applied : (p : MediaContents) (mid : List ℕ) → update_of (applied p) mid ≡ line_after p.pending mid (update_of p mid)
line-applied p mid =
    let gone : List ℕ → Bool = removed_by p.pending in
    update-lines_after mid p.pending (without_lines gone p.lines)
    ∙ ap (latest mid p.pending) (ap its_update (look_without mid gone p.lines) ∙ update_none (gone mid) (held_line mid p.lines))

-- a line that is dropped is gone, and the others are unchanged
pub line-dropped : (p : MediaContents) (mid : List ℕ) → update_of (line_dropped mid p) mid ≡ None
line-dropped p mid =
    ap its_update (look_without mid (λ other. same_mid other mid) p.lines)
    ∙ ap (λ (t : Bool). its_update (cond t None (held_line mid p.lines))) (is_same mid mid refl)

pub line-dropped_other : (p : MediaContents) (mid other : List ℕ) → same_mid other mid ≡ false
    → update_of (line_dropped mid p) other ≡ update_of p other
line-dropped_other p mid other n =
    ap its_update (look_without other (λ m. same_mid m mid) p.lines)
    ∙ ap (λ (t : Bool). its_update (cond t None (held_line other p.lines))) n

-- a writer's mark is no part of an update
pub update-writer_marked : (m mid : List ℕ) (w : PlainMark) (ls : Lines) → its_update (held_line m (writer_marked mid w ls))
    ≡ its_update (held_line m ls)
update-writer_marked m mid w [] = refl
update-writer_marked m mid w (e ∷ es) = by (same_key (key_of mid) e.0) refl (update-writer_marked m mid w es)
  where
    here : (t : Bool) (x y : Option HeldLine) → its_update x ≡ its_update y → its_update (cond t (Some e.1) x)
        ≡ its_update (cond t (Some e.1) y)
    here true x y h = refl
    here false x y h = h

    there : (t : Bool) (x : Option HeldLine) → its_update (cond t (Some (record e.1 { mark = w })) x) ≡ its_update (cond t (Some e.1) x)
    there true x = refl
    there false x = refl

    by : (b : Bool) → same_key (key_of mid) e.0 ≡ b → its_update (held_line m (writer_marked mid w es))
        ≡ its_update (held_line m es) → its_update (held_line m (writer_marked mid w (e ∷ es))) ≡ its_update (held_line m (e ∷ es))
    by true is more = ap (λ (t : Bool). its_update (held_line m (cond t ((e.0, record e.1 { mark = w }) ∷ es) (e
        ∷ writer_marked mid w es)))) is ∙ there (same_mid m e.0.mid) (held_line m es)
    by false is more = ap (λ (t : Bool). its_update (held_line m (cond t ((e.0, record e.1 { mark = w }) ∷ es) (e
        ∷ writer_marked mid w es)))) is ∙ here (same_mid m e.0.mid) (held_line m (writer_marked mid w es)) (held_line m es) more
