-- Parts of lines in their order, one behind another.
use Rattle.std.proofs.Common.{◌≡◌, ℕ, ◌+◌, ◌-◌, ◌<◌, ◌≤◌, false, List, [], ◌++◌, length, take, get_or, refl, sym, ap, ◌∙◌}
use Rattle.std.proofs.Common.{inl, inr, arith, length-append, append_assoc, subst}
use Rattle.std.specs.Borrow.{Bor}
use Rattle.std.specs.List.{flat_map}
use Rattle.std.specs.List.Sorted.{IsPermutation, IsSortedBy}
use Rattle.std.proofs.lemmas.Bool.{cases_lt}
use Rattle.std.proofs.lemmas.List.{get_or_append_left, get_or-append_right, get_or_default, get_or-map, length-map, take_all}
use Rattle.std.proofs.lemmas.List.Concat.{flat_map-append}
use Rattle.std.proofs.lemmas.List.Sorted.{IsPermutation-append, IsPermutation-map, IsPermutation-trans}
use Rattle.mv_history.specs.declared.answers.LogTable.{LogTable}
use Rattle.set_model.specs.Catalogue.{Maps}
use Rattle.run_report.specs.declared.line.Line.{Line}
use Rattle.run_report.specs.declared.parts.Part.{Part}
use Rattle.run_report.specs.InOrder.{HasInOrder, IsPart, IsPartBehind, IsTextInOrder, lines_at, lines_of}
use Rattle.run_report.specs.Order.{is_ahead, IsOrdered}
use Rattle.run_report.specs.Text.{text_of_line, text_of_run, text_of_sets, text_of_tables}

-- references in the order of their lines
pub ordered_at : (refs : List (Bor Line)) → IsSortedBy (λ (a b : Bor Line). is_ahead a.now b.now) refs → IsOrdered (lines_at refs)
ordered_at refs sorted k d low lt =
    let b : Bor Line = record { ref_ptr = (0, 0); now = d } in
    let n : length (lines_at refs) ≡ length refs = length-map refs (λ (r : Bor Line). r.now) in
    let within : k + 1 < length refs = omega (arith, n, lt) in
    rw (get_or-map (λ (r : Bor Line). r.now) refs (k + 1) b d within, get_or-map (λ (r : Bor Line). r.now) refs k b d (omega (arith, within)))
    (sorted k b low within)

-- lines in order, and further ones, the first of which isn't ahead of the last of them
ordered_both : (xs ys : List Line) (first last : Line) → IsOrdered xs → IsOrdered ys → 0 < length xs → 0 < length ys → last ≡ get_or xs (length xs - 1) last
    → first ≡ get_or ys 0 first → is_ahead first last ≡ false → IsOrdered (xs ++ ys)
ordered_both xs ys first last ox oy sx sy last_is first_is apart k d low lt =
    let n = length-append xs ys in
    elim (cases_lt (k + 1) (length xs)) [
      | inl within ↦ rw (get_or_append_left xs ys d (k + 1) within, get_or_append_left xs ys d k (omega (arith, within))) (ox k d low within)
      | inr past ↦ elim (cases_lt k (length xs)) [
        | inl here ↦
            let at : k ≡ length xs - 1 = omega (arith, past, here) in
            let back : get_or (xs ++ ys) (k + 1) d ≡ first =
            get_or-append_right xs ys (length xs) (k + 1) d refl (omega (arith, past))
            ∙ ap (λ (i : ℕ). get_or ys i d) (omega (arith, past, here)) ∙ get_or_default ys 0 d first sy ∙ sym first_is in
            let front : get_or (xs ++ ys) k d ≡ last =
            get_or_append_left xs ys d k here ∙ get_or_default xs k d last here ∙ ap (λ (i : ℕ). get_or xs i last) at ∙ sym last_is in
            rw (back, front) apart
        | inr behind ↦
            let next : (k + 1) - length xs ≡ (k - length xs) + 1 = omega (arith, behind) in
            rw (
              get_or-append_right xs ys (length xs) (k + 1) d refl (omega (arith, behind)),
              get_or-append_right xs ys (length xs) k d refl (omega (arith, behind)),
              next,
            )
            (oy (k - length xs) d (omega arith) (omega (arith, n, lt, behind)))
      ]
    ]

-- a part with another behind it
pub both_parts : (lines xs ys : List Line) (front behind text : List ℕ) (first last next end : Line) → IsPermutation lines (xs ++ ys)
    → IsPart xs front first last → IsPart ys behind next end → is_ahead next last ≡ false → text ≡ front ++ behind → IsPart lines text first end
both_parts lines xs ys front behind text first last next end cut p q apart is =
    record {
      ordered = p.ordered ++ q.ordered;
      same = IsPermutation-trans _ _ _ cut (IsPermutation-append xs p.ordered ys q.ordered p.same q.same);
      in_order = ordered_both p.ordered q.ordered next last p.in_order q.in_order p.some q.some p.last_is q.first_is apart;
      is = is ∙ ap (λ (t : List ℕ). t ++ behind) p.is ∙ ap (λ (t : List ℕ). flat_map text_of_line p.ordered ++ t) q.is
          ∙ sym (flat_map-append text_of_line p.ordered q.ordered);
      some = omega (arith, length-append p.ordered q.ordered, p.some);
      first_is = p.first_is ∙ sym (get_or_append_left p.ordered q.ordered first 0 p.some);
      last_is = q.last_is
          ∙ ap (λ (i : ℕ). get_or q.ordered i end) (omega (arith, length-append p.ordered q.ordered, q.some))
          ∙ sym (get_or-append_right p.ordered q.ordered (length p.ordered) (length (p.ordered ++ q.ordered) - 1) end refl
          (omega (arith, length-append p.ordered q.ordered, q.some)));
    }

-- a part that is all
pub has_part : (lines others : List Line) (text : List ℕ) (first last : Line) → others ≡ lines → IsPart others text first last → HasInOrder lines text
has_part lines others text first last is p =
    record { ordered = p.ordered; same = subst (λ (xs : List Line). IsPermutation xs p.ordered) is p.same; in_order = p.in_order; is = p.is }

-- the lines in order, and what is behind them
pub in_order_with_rest : (lines : List Line) (end : Maps) (tables : List LogTable) (text rest whole : List ℕ) → HasInOrder lines text
    → rest ≡ text_of_sets 0 end ++ text_of_tables 0 tables → whole ≡ text ++ rest → IsTextInOrder lines end tables whole
unfolding text_of_run
in_order_with_rest lines end tables text rest whole h behind is =
    record {
      ordered = h.ordered;
      same = h.same;
      in_order = h.in_order;
      is = is ∙ ap (λ (t : List ℕ). t ++ rest) h.is ∙ ap (λ (t : List ℕ). flat_map text_of_line h.ordered ++ t) behind
          ∙ sym (append_assoc (flat_map text_of_line h.ordered) (text_of_sets 0 end) (text_of_tables 0 tables));
    }

-- references to the lines of the stretches, once they are in order
pub sorted_same : (all : List (Bor (List Line))) (i : ℕ) (before now : List (Bor Line)) → length all ≤ i → lines_at before ≡ lines_of (take i all)
    → IsPermutation before now → IsPermutation (lines_of all) (lines_at now)
sorted_same all i before now past told same =
    let moved : IsPermutation (lines_at before) (lines_at now) = IsPermutation-map (λ (r : Bor Line). r.now) before now same in
    subst (λ (xs : List Line). IsPermutation xs (lines_at now)) (told ∙ ap lines_of (take_all i all past)) moved

-- the part that has the lines of these references
pub merged_part : (lines : List Line) (refs : List (Bor Line)) (text : List ℕ) (f l : Line) → IsPermutation lines (lines_at refs)
    → IsOrdered (lines_at refs) → text ≡ flat_map text_of_line (lines_at refs) → 0 < length refs → f ≡ get_or (lines_at refs) 0 f
    → l ≡ get_or (lines_at refs) (length refs - 1) l → IsPart lines text f l
merged_part lines refs text f l same ordered is some first last =
    let n : length (lines_at refs) ≡ length refs = length-map refs (λ (r : Bor Line). r.now) in
    record {
      ordered = lines_at refs;
      same = same;
      in_order = ordered;
      is = is;
      some = omega (arith, n, some);
      first_is = first;
      last_is = rw n last;
    }

-- the piece that has them, behind what stood before
pub behind_piece : (lines : List Line) (refs : List (Bor Line)) (before text : List ℕ) (f l : Line) → IsPermutation lines (lines_at refs)
    → IsOrdered (lines_at refs) → text ≡ before ++ flat_map text_of_line (lines_at refs) → 0 < length refs → f ≡ get_or (lines_at refs) 0 f
    → l ≡ get_or (lines_at refs) (length refs - 1) l → IsPartBehind before lines text f l
behind_piece lines refs before text f l same ordered is some first last =
    record {
      own = flat_map text_of_line (lines_at refs);
      part = merged_part lines refs (flat_map text_of_line (lines_at refs)) f l same ordered refl some first last;
      behind = is;
    }

-- a piece behind another
pub behind_both : (lines xs ys : List Line) (before middle text : List ℕ) (first last next end : Line) → IsPermutation lines (xs ++ ys)
    → IsPartBehind before xs middle first last → IsPartBehind middle ys text next end → is_ahead next last ≡ false
    → IsPartBehind before lines text first end
behind_both lines xs ys before middle text first last next end cut p q apart =
    record {
      own = p.own ++ q.own;
      part = both_parts lines xs ys p.own q.own (p.own ++ q.own) first last next end cut p.part q.part apart refl;
      behind = q.behind ∙ ap (λ (t : List ℕ). t ++ q.own) p.behind ∙ append_assoc before p.own q.own;
    }

-- pieces before which nothing stood
pub behind_nothing : (lines : List Line) (before text : List ℕ) (first last : Line) → before ≡ [] → IsPartBehind before lines text first last
    → IsPart lines text first last
behind_nothing lines before text first last none p =
    subst (λ (t : List ℕ). IsPart lines t first last) (sym (p.behind ∙ ap (λ (t : List ℕ). t ++ p.own) none)) p.part

-- two parts that were joined
pub joined_parts : (lines xs ys : List Line) (p q r : Part) → IsPermutation lines (xs ++ ys) → IsPart xs p.text.items p.first p.last
    → IsPart ys q.text.items q.first q.last
    → (is_ahead q.first p.last ≡ false) × (r.text.items ≡ p.text.items ++ q.text.items) × (r.first ≡ p.first) × (r.last ≡ q.last)
    → IsPart lines r.text.items r.first r.last
joined_parts lines xs ys p q r cut front behind j =
    rw (j.2, j.3) (both_parts lines xs ys p.text.items q.text.items r.text.items p.first p.last q.first q.last cut front behind j.0 j.1)

-- the lines, put in order by one thread
pub has_ordered : (lines ordered : List Line) (text : List ℕ) → IsPermutation lines ordered → IsOrdered ordered → text ≡ flat_map text_of_line ordered
    → HasInOrder lines text
has_ordered lines ordered text same in_order is = record { ordered = ordered; same = same; in_order = in_order; is = is }
