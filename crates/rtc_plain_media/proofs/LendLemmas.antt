-- What the part is once a mark that it lent is written.
use Rattle.std.proofs.Common.{◌≡◌, ℕ, Bool, true, false, cond, Option, Some, None, Result, Ok, Err, List, [], ◌∷◌, refl, sym, ap, subst, ◌∙◌}
use Rattle.std.specs.Borrow.{MutBor}
use Rattle.std.specs.Option.{IfSome}
use Rattle.std.specs.Result.{IsOk, IfOk, OnErr}
use Rattle.std.specs.Map.{lookup, set_value}
use Rattle.rtc_plain_media.specs.declared.plain_mark.PlainMark.{PlainMark}
use Rattle.rtc_plain_media.specs.declared.held_line.HeldLine.{HeldLine}
use Rattle.rtc_plain_media.specs.Streams.{Streams, new_mark}
use Rattle.rtc_plain_media.specs.Lines.{Lines, same_key, key_of}
use Rattle.rtc_plain_media.specs.MediaContents.{MediaContents}
use Rattle.rtc_plain_media.specs.MediaCalls.{writer_marked}

-- a table of the part was lent, and left changed; what stood there as it was lent is read from the table
pub rx_left : {X : Type 0} (r : Option X) (Shown : X → Streams → Type 0) (change : Streams → Streams) (l : Streams) (v p : MediaContents) → v ≡ p
    → IfSome r (λ lent. Shown lent v.rx × (l ≡ change v.rx)) → IfSome r (λ lent. Shown lent p.rx × (record v { rx = l } ≡ record p { rx = change p.rx }))
rx_left None Shown change l v p e h = tt
rx_left (Some x) Shown change l v p e h =
    (subst (λ (c : MediaContents). Shown x c.rx) e h.0, ap (λ (m : Streams). record v { rx = m }) h.1 ∙ ap (λ (c : MediaContents). record c { rx = change c.rx }) e)

pub tx_left : {X : Type 0} (r : Option X) (Shown : X → Streams → Type 0) (change : Streams → Streams) (l : Streams) (v p : MediaContents) → v ≡ p
    → IfSome r (λ lent. Shown lent v.tx × (l ≡ change v.tx)) → IfSome r (λ lent. Shown lent p.tx × (record v { tx = l } ≡ record p { tx = change p.tx }))
tx_left None Shown change l v p e h = tt
tx_left (Some x) Shown change l v p e h =
    (subst (λ (c : MediaContents). Shown x c.tx) e h.0, ap (λ (m : Streams). record v { tx = m }) h.1 ∙ ap (λ (c : MediaContents). record c { tx = change c.tx }) e)

-- or nothing was lent
pub rx_stayed : (l : Streams) (v p : MediaContents) → l ≡ v.rx → v ≡ p → record v { rx = l } ≡ p
rx_stayed l v p h e = ap (λ (m : Streams). record v { rx = m }) h ∙ e

pub tx_stayed : (l : Streams) (v p : MediaContents) → l ≡ v.tx → v ≡ p → record v { tx = l } ≡ p
tx_stayed l v p h e = ap (λ (m : Streams). record v { tx = m }) h ∙ e

-- a new stream was lent, or none was made
pub rx_made_left : {E : Type 0} (r : Result (MutBor PlainMark) E) (change : Streams → Streams) (l : Streams) (v p : MediaContents) → v ≡ p
    → (IsOk r → IfOk r (λ lent. (lent.now ≡ new_mark) × (l ≡ change v.rx))) → IsOk r → IfOk r (λ lent. (lent.now ≡ new_mark) × (record v { rx = l } ≡ record p { rx = change p.rx }))
rx_made_left (Ok x) change l v p e h ok = ((h ok).0, ap (λ (m : Streams). record v { rx = m }) (h ok).1 ∙ ap (λ (c : MediaContents). record c { rx = change c.rx }) e)
rx_made_left (Err x) change l v p e h ok = tt

pub tx_made_left : {E : Type 0} (r : Result (MutBor PlainMark) E) (change : Streams → Streams) (l : Streams) (v p : MediaContents) → v ≡ p
    → (IsOk r → IfOk r (λ lent. (lent.now ≡ new_mark) × (l ≡ change v.tx))) → IsOk r → IfOk r (λ lent. (lent.now ≡ new_mark) × (record v { tx = l } ≡ record p { tx = change p.tx }))
tx_made_left (Ok x) change l v p e h ok = ((h ok).0, ap (λ (m : Streams). record v { tx = m }) (h ok).1 ∙ ap (λ (c : MediaContents). record c { tx = change c.tx }) e)
tx_made_left (Err x) change l v p e h ok = tt

pub rx_made_none : {E : Type 0} (r : Result (MutBor PlainMark) E) (l : Streams) (v p : MediaContents) → v ≡ p → OnErr r (l ≡ v.rx) → OnErr r (record v { rx = l } ≡ p)
rx_made_none (Ok x) l v p e h = tt
rx_made_none (Err x) l v p e h = rx_stayed l v p h e

pub tx_made_none : {E : Type 0} (r : Result (MutBor PlainMark) E) (l : Streams) (v p : MediaContents) → v ≡ p → OnErr r (l ≡ v.tx) → OnErr r (record v { tx = l } ≡ p)
tx_made_none (Ok x) l v p e h = tt
tx_made_none (Err x) l v p e h = tx_stayed l v p h e

abbrev value_of : HeldLine → Option HeldLine → HeldLine
value_of d None = d
value_of d (Some x) = x

-- the writer's mark in the line of a mid
pub marked_line : (mid : List ℕ) (w : PlainMark) (line : HeldLine) (es : Lines) → Some line ≡ lookup (same_key (key_of mid)) es → set_value (same_key (key_of mid)) es (record line { mark = w }) ≡ writer_marked mid w es
marked_line mid w line [] h = refl
marked_line mid w line (e ∷ es) h = by (same_key (key_of mid) e.0) refl (λ rest. marked_line mid w line es rest)
  where
    by : (b : Bool) → same_key (key_of mid) e.0 ≡ b → (Some line ≡ lookup (same_key (key_of mid)) es → set_value (same_key (key_of mid)) es (record line { mark = w }) ≡ writer_marked mid w es) → set_value (same_key (key_of mid)) (e ∷ es) (record line { mark = w }) ≡ writer_marked mid w (e ∷ es)
    by true is more =
        let found : Some line ≡ Some e.1 = h ∙ ap (λ (t : Bool). cond t (Some e.1) (lookup (same_key (key_of mid)) es)) is in
        let new : HeldLine → Lines = λ x. (e.0, record x { mark = w }) ∷ es in
        ap (λ (t : Bool). cond t (new line) (e ∷ set_value (same_key (key_of mid)) es (record line { mark = w }))) is
        ∙ ap (λ (x : Option HeldLine). new (value_of line x)) found
        ∙ ap (λ (t : Bool). cond t (new e.1) (e ∷ writer_marked mid w es)) (sym is)
    by false is more =
        let later : Some line ≡ lookup (same_key (key_of mid)) es = h ∙ ap (λ (t : Bool). cond t (Some e.1) (lookup (same_key (key_of mid)) es)) is in
        ap (λ (t : Bool). cond t ((e.0, record line { mark = w }) ∷ es) (e ∷ set_value (same_key (key_of mid)) es (record line { mark = w }))) is
        ∙ ap (λ (l : Lines). e ∷ l) (more later)
        ∙ ap (λ (t : Bool). cond t ((e.0, record e.1 { mark = w }) ∷ es) (e ∷ writer_marked mid w es)) (sym is)

pub line_left : (mid : List ℕ) (w : PlainMark) (line : HeldLine) (l : Lines) (v p : MediaContents) → v ≡ p → Some line ≡ lookup (same_key (key_of mid)) v.lines → l ≡ set_value (same_key (key_of mid)) v.lines (record line { mark = w })
    → record v { lines = l } ≡ record p { lines = writer_marked mid w p.lines }
line_left mid w line l v p e found h =
    ap (λ (m : Lines). record v { lines = m }) (h ∙ marked_line mid w line v.lines found) ∙ ap (λ (c : MediaContents). record c { lines = writer_marked mid w c.lines }) e
