-- A text is that of one line: the kinds of lines begin differently, paths that are written alike are one, and a name has no `/`.
use Rattle.std.proofs.Common.{◌≡◌, ℕ, ◌-◌, ◌<◌, ◌^◌, true, List, [], ◌∷◌, ◌++◌, append_assoc, drop, decimal, refl, sym, ap, ap₂, ◌∙◌, subst, arith}
use Rattle.std.proofs.lemmas.Fmt.{decimal_injective}
use Rattle.std.proofs.lemmas.List.Elements.{All-nil, All-head, All-tail}
use Rattle.std.proofs.lemmas.Slice.Eq.{bytes_eq-Decides}
use Rattle.flow_model.specs.declared.instances.Path.{Path}
use Rattle.flow_model.specs.declared.names.Name.{Name}
use Rattle.flow_model.specs.Paths.{spelling, IsPath}
use Rattle.flow_model.specs.Words.{is_name}
use Rattle.certificates.specs.declared.lines.CertLine.{CertLine}
use Rattle.certificates.specs.declared.lines.CertLine.TheVariants.{Scope, Dead, Finished, Ended}
use Rattle.certificates.specs.Lines.{activity_in_quotes, in_quotes, line_text, Writes, WritesNoOther}
use Rattle.certificates.specs.Naming.{activity_spelling, Lacks}
use Rattle.certificates.proofs.Cuts.{name_lacks, digits_lack}
use Rattle.certificate_laws.specs.Right.{IsRead}
use Rattle.certificate_laws.proofs.Spellings.{apart}

-- ---- a cut at the last mark

-- bytes with a mark don't lack it
stands_in : (mark : ℕ) (front back : List ℕ) → Lacks mark (front ++ mark ∷ back) → ⊥
stands_in mark [] back none = All-head (λ (x : ℕ). x ≡ mark → ⊥) mark back none refl
stands_in mark (b ∷ front) back none = stands_in mark front back (All-tail (λ (x : ℕ). x ≡ mark → ⊥) b (front ++ mark ∷ back) none)

-- there is one cut at a mark with none behind it
last_cut : (mark : ℕ) (a b x y : List ℕ) → Lacks mark b → Lacks mark y → a ++ mark ∷ b ≡ x ++ mark ∷ y → (a ≡ x) × (b ≡ y)
last_cut mark [] b [] y lacks_b lacks_y same =
    let tails : b ≡ y = cc same in
    (refl, tails)
last_cut mark [] b (d ∷ x) y lacks_b lacks_y same =
    let tails : b ≡ x ++ mark ∷ y = cc same in
    absurd (stands_in mark x y (subst (Lacks mark) tails lacks_b))
last_cut mark (c ∷ a) b [] y lacks_b lacks_y same =
    let tails : a ++ mark ∷ b ≡ y = cc same in
    absurd (stands_in mark a b (subst (Lacks mark) (sym tails) lacks_y))
last_cut mark (c ∷ a) b (d ∷ x) y lacks_b lacks_y same =
    let heads : c ≡ d = cc same in
    let tails : a ++ mark ∷ b ≡ x ++ mark ∷ y = cc same in
    let rest = last_cut mark a b x y lacks_b lacks_y tails in
    (ap₂ (λ (e : ℕ) (es : List ℕ). e ∷ es) heads rest.0, rest.1)

-- ---- what stands in a line

-- what stands in quotes
quoted_same : (a b : List ℕ) → in_quotes a ≡ in_quotes b → a ≡ b
quoted_same a b same = (last_cut 39 a [] b [] (All-nil (λ (x : ℕ). x ≡ 39 → ⊥)) (All-nil (λ (x : ℕ). x ≡ 39 → ⊥)) (ap (λ (l : List ℕ). drop 1 l) same)).0

-- paths that can be written and are written alike are one
path_same : (p q : Path) → IsPath p → IsPath q → spelling p ≡ spelling q → p ≡ q
path_same p q is_p is_q same = apart (2 ^ 64 - 1) (omega arith) p q (as_read p is_p) (as_read q is_q) ((bytes_eq-Decides (spelling p) (spelling q)).1 same)
  where
    as_read : (r : Path) → IsPath r → IsRead (2 ^ 64 - 1) r
    as_read r is = record { path = is; few = λ k d less. let small = (is.steps k d less).small in omega (arith, small) }

-- an activity's scope and name
activity_same : (p q : Path) (name title : Name) → IsPath p → IsPath q → is_name name ≡ true → is_name title ≡ true → activity_spelling p name ≡ activity_spelling q title
    → (p ≡ q) × (name ≡ title)
activity_same p q name title is_p is_q named titled same =
    let cut = last_cut 47 (spelling p) name (spelling q) title (name_lacks name named) (name_lacks title titled) same in
    (path_same p q is_p is_q cut.0, cut.1)

-- a blank goes with the digits behind it
blank_behind : (front digits : List ℕ) → front ++ 32 ∷ [] ++ digits ≡ front ++ 32 ∷ digits
blank_behind front digits = append_assoc front (32 ∷ []) digits

-- an activity in quotes, and the number of an attempt
attempt_same : (a b : List ℕ) (m n : ℕ) → m < 2 ^ 64 → n < 2 ^ 64 → in_quotes a ++ 32 ∷ decimal m ≡ in_quotes b ++ 32 ∷ decimal n → (a ≡ b) × (m ≡ n)
attempt_same a b m n small_m small_n same =
    let cut = last_cut 32 (in_quotes a) (decimal m) (in_quotes b) (decimal n) (digits_lack m small_m) (digits_lack n small_n) same in
    (quoted_same a b cut.0, decimal_injective m n small_m small_n cut.1)

-- ---- lines

-- the first byte tells the kind of a line
abbrev first_byte : List ℕ → ℕ
first_byte [] = 0
first_byte (b ∷ bs) = b

-- lines that are written alike are one
text_same : (x y : CertLine) (bytes : List ℕ) → Writes bytes x → Writes bytes y → line_text x ≡ line_text y → x ≡ y
text_same (Scope p) (Scope q) bytes is_x is_y same =
    ap Scope (path_same p q is_x.writable is_y.writable (quoted_same (spelling p) (spelling q) (ap (λ (l : List ℕ). drop 6 l) same)))
text_same (Scope p) (Dead q title) bytes is_x is_y same = absurd (omega (arith, ap first_byte same))
text_same (Scope p) (Finished q title n) bytes is_x is_y same = absurd (omega (arith, ap first_byte same))
text_same (Scope p) (Ended q) bytes is_x is_y same = absurd (omega (arith, ap first_byte same))
text_same (Dead p name) (Scope q) bytes is_x is_y same = absurd (omega (arith, ap first_byte same))
text_same (Dead p name) (Dead q title) bytes is_x is_y same =
    let spelt = quoted_same (activity_spelling p name) (activity_spelling q title) (ap (λ (l : List ℕ). drop 5 l) same) in
    let parts = activity_same p q name title is_x.writable.0 is_y.writable.0 is_x.writable.1 is_y.writable.1 spelt in
    ap₂ (λ (r : Path) (word : Name). Dead r word) parts.0 parts.1
text_same (Dead p name) (Finished q title n) bytes is_x is_y same = absurd (omega (arith, ap first_byte same))
text_same (Dead p name) (Ended q) bytes is_x is_y same = absurd (omega (arith, ap first_byte same))
text_same (Finished p name m) (Scope q) bytes is_x is_y same = absurd (omega (arith, ap first_byte same))
text_same (Finished p name m) (Dead q title) bytes is_x is_y same = absurd (omega (arith, ap first_byte same))
text_same (Finished p name m) (Finished q title n) bytes is_x is_y same =
    let behind : activity_in_quotes p name ++ 32 ∷ [] ++ decimal m ≡ activity_in_quotes q title ++ 32 ∷ [] ++ decimal n = ap (λ (l : List ℕ). drop 9 l) same in
    let digits = sym (blank_behind (activity_in_quotes p name) (decimal m)) ∙ behind ∙ blank_behind (activity_in_quotes q title) (decimal n) in
    let spelt = attempt_same (activity_spelling p name) (activity_spelling q title) m n is_x.writable.2 is_y.writable.2 digits in
    let parts = activity_same p q name title is_x.writable.0 is_y.writable.0 is_x.writable.1 is_y.writable.1 spelt.0 in
    ap₂ (λ (r : Path) (word : Name). Finished r word m) parts.0 parts.1 ∙ ap (λ (k : ℕ). Finished q title k) spelt.1
text_same (Finished p name m) (Ended q) bytes is_x is_y same = absurd (omega (arith, ap first_byte same))
text_same (Ended p) (Scope q) bytes is_x is_y same = absurd (omega (arith, ap first_byte same))
text_same (Ended p) (Dead q title) bytes is_x is_y same = absurd (omega (arith, ap first_byte same))
text_same (Ended p) (Finished q title n) bytes is_x is_y same = absurd (omega (arith, ap first_byte same))
text_same (Ended p) (Ended q) bytes is_x is_y same =
    ap Ended (path_same p q is_x.writable is_y.writable (quoted_same (spelling p) (spelling q) (ap (λ (l : List ℕ). drop 6 l) same)))

pub lines_one : (bytes : List ℕ) (line : CertLine) → Writes bytes line → WritesNoOther bytes line
lines_one bytes line writes other also = text_same other line bytes also writes (also.text ∙ sym writes.text)
