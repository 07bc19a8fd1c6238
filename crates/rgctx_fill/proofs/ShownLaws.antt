-- What held words show: that their own indexes, the leaves, and what words name hold words.
use Rattle.std.proofs.Common.{◌≡◌, ◌≢◌, ⊎_elim, ℕ, ◌-◌, ◌/◌, ◌%◌, ◌<◌, ◌≤◌, sym, ap, ◌∙◌, subst, arith}
use Rattle.std.proofs.lemmas.Bool.{cases_eq, cases_lt}
use Rattle.rgctx_words.specs.declared.directory.DirectoryWord.{DirectoryWord}
use Rattle.rgctx_words.specs.declared.place.ContextPlace.TheVariants as place
use Rattle.rgctx_words.specs.Regions.{word_count, node_count, row_count, row_words, directory_at, roots_at, rows_at, directory_index, root_index, row_index, row_address}
use Rattle.rgctx_words.specs.Directory.{directory_read}
use Rattle.rgctx_words.specs.Held.{Grows}
use Rattle.rgctx_template.specs.Catalogue.{CatData}
use Rattle.rgctx_fill.specs.Leaves.{IsLeaf}
use Rattle.rgctx_fill.specs.Fitting.{directory, use_of, IsRowOf, IsNext, AreFitting}
use Rattle.rgctx_fill.specs.Claims.{IsOfRow, NamesFrom, Names, IsSure, Shows}
use Rattle.rgctx_fill.specs.PlaceLaws.{node-place, directory-place, root-place, link-place, entry-place}
use Rattle.rgctx_fill.specs.LeafLaws.{leaf-used}

-- ---- what a word names

module _ (cat : CatData) (at : ℕ → ℕ) (fits : AreFitting cat at) where
  of_row : (row address j : ℕ) → address ≡ row_address row → directory at row ≢ 0 → IsOfRow address j → at j ≢ 0
  of_row row address j is used named z =
      let e : j ≡ directory_index row = let p : address ≡ row_address named.row = named.is in let q : j ≡ directory_index named.row = named.at in omega arith in
      used (ap at (sym e) ∙ z)

  node_names : (i j : ℕ) → i < node_count → at i ≢ 0 → NamesFrom (place.Node i) (at i) j → at j ≢ 0
  node_names i j low used named = fits.nodes_listed.packed j i (omega arith) named.1 low used

  directory_names : (row j : ℕ) → row < row_count → directory at row ≢ 0 → NamesFrom (place.Directory row) (directory at row) j → at j ≢ 0
  directory_names row j low used named = ⊎_elim
      (λ (h : (directory_at ≤ j) × (j < directory_index row)).
      let e : directory_index (j - directory_at) ≡ j = let p = h.0 in omega arith in
      λ z. fits.rows_listed.packed (j - directory_at) row (omega arith) (let p = h.0 in let q = h.1 in omega arith) low used (ap at e ∙ z))
      (λ (e : j ≡ (directory_read (directory at row)).node). λ z. (fits.rows row low used).used (ap at (sym e) ∙ z))
      named

  row_of_used : (i depth address : ℕ) → IsRowOf at i depth address → at i ≢ 0
  row_of_used i depth address h z =
      let e : (use_of at h.row).node ≡ i = ap (λ (u : DirectoryWord). u.node) h.of in
      (fits.rows h.row h.low h.used).used (ap at e ∙ z)

  root_names : (i j : ℕ) → i < node_count → at (root_index i) ≢ 0 → NamesFrom (place.Root i) (at (root_index i)) j → at j ≢ 0
  root_names i j low used named =
      let h : IsRowOf at i 0 (at (root_index i)) = fits.roots i low used in
      ⊎_elim
      (λ (e : j ≡ i). λ z. row_of_used i 0 (at (root_index i)) h (ap at (sym e) ∙ z))
      (λ (n : IsOfRow (at (root_index i)) j). of_row h.row (at (root_index i)) j h.is h.used n)
      named

  link_names : (row j : ℕ) → row < row_count → at (row_index row 0) ≢ 0 → NamesFrom (place.Link row) (at (row_index row 0)) j → at j ≢ 0
  link_names row j low used named =
      let h : IsNext at row (at (row_index row 0)) = fits.links row low used in
      ⊎_elim
      (λ (e : j ≡ directory_index row). λ z. h.used (ap at (sym e) ∙ z))
      (λ (n : IsOfRow (at (row_index row 0)) j). of_row h.next.row (at (row_index row 0)) j h.next.is h.next.used n)
      named

  entry_names : (row slot j : ℕ) → row < row_count → 0 < slot → slot < row_words → at (row_index row slot) ≢ 0 → NamesFrom (place.Entry row slot) (at (row_index row slot)) j → at j ≢ 0
  entry_names row slot j low first last used named z = (fits.entries row slot low first last used).used (ap at (sym named) ∙ z)

  row_names : (row slot j : ℕ) → row < row_count → slot < row_words → at (row_index row slot) ≢ 0 → Names (row_index row slot) (at (row_index row slot)) j → at j ≢ 0
  row_names row slot j low last used named = ⊎_elim
      (λ (e : slot ≡ 0).
      let i : row_index row slot ≡ row_index row 0 = ap (row_index row) e in
      link_names row j low (λ z. used (ap at i ∙ z)) (subst (λ p. NamesFrom p (at (row_index row 0)) j) (link-place row) (subst (λ k. Names k (at k) j) i named)))
      (λ (ne : slot ≢ 0).
      entry_names row slot j low (omega arith) last used (subst (λ p. NamesFrom p (at (row_index row slot)) j) (entry-place row slot (omega arith) last) named))
      (cases_eq slot 0)

  in_rows : (i j : ℕ) → rows_at ≤ i → i < word_count → at i ≢ 0 → Names i (at i) j → at j ≢ 0
  in_rows i j low high used named =
      let row : ℕ = (i - rows_at) / row_words in
      let slot : ℕ = (i - rows_at) % row_words in
      let e : i ≡ row_index row slot = omega arith in
      row_names row slot j (omega arith) (omega arith) (λ z. used (ap at e ∙ z)) (subst (λ k. Names k (at k) j) e named)

  in_roots : (i j : ℕ) → roots_at ≤ i → i < rows_at → at i ≢ 0 → Names i (at i) j → at j ≢ 0
  in_roots i j low high used named =
      let e : i ≡ root_index (i - roots_at) = omega arith in
      root_names (i - roots_at) j (omega arith) (λ z. used (ap at e ∙ z))
      (subst (λ p. NamesFrom p (at (root_index (i - roots_at))) j) (root-place (i - roots_at) (omega arith)) (subst (λ k. Names k (at k) j) e named))

  in_directory : (i j : ℕ) → node_count ≤ i → i < roots_at → at i ≢ 0 → Names i (at i) j → at j ≢ 0
  in_directory i j low high used named =
      let e : i ≡ directory_index (i - node_count) = omega arith in
      directory_names (i - node_count) j (omega arith) (λ z. used (ap at e ∙ z))
      (subst (λ p. NamesFrom p (directory at (i - node_count)) j) (directory-place (i - node_count) (omega arith)) (subst (λ k. Names k (at k) j) e named))

  in_nodes : (i j : ℕ) → i < node_count → at i ≢ 0 → Names i (at i) j → at j ≢ 0
  in_nodes i j low used named = node_names i j low used (subst (λ p. NamesFrom p (at i) j) (node-place i low) named)

  -- what a word names holds a word
  pub names-used : (i j : ℕ) → i < word_count → at i ≢ 0 → Names i (at i) j → at j ≢ 0
  names-used i j low used named = ⊎_elim
      (λ (h : i < node_count). in_nodes i j h used named)
      (λ (g : node_count ≤ i). ⊎_elim
      (λ (h : i < roots_at). in_directory i j g h used named)
      (λ (k : roots_at ≤ i). ⊎_elim
      (λ (h : i < rows_at). in_roots i j k h used named)
      (λ (h : rows_at ≤ i). in_rows i j h low used named)
      (cases_lt i rows_at))
      (cases_lt i roots_at))
      (cases_lt i node_count)

-- ---- what held words show

module _ (cat : CatData) (held : ℕ → ℕ) where
  -- what is sure stays sure as more is held
  pub sure-grows : (later : ℕ → ℕ) (P : (ℕ → ℕ) → Type 0) → Grows held later → IsSure cat held P → IsSure cat later P
  sure-grows later P grows sure at fits within = sure at fits (λ j used. within j (λ z. used (sym (grows j used) ∙ z)) ∙ grows j used)

  -- a held word shows its index
  pub shows-held : (i : ℕ) → held i ≢ 0 → Shows cat held i
  shows-held i used at fits within z = used (sym (within i used) ∙ z)

  pub shows-leaf : (i : ℕ) → IsLeaf i → Shows cat held i
  shows-leaf i leaf at fits within = leaf-used cat at i fits leaf

  -- it shows what it names
  pub shows-named : (i j : ℕ) → i < word_count → held i ≢ 0 → Names i (held i) j → Shows cat held j
  shows-named i j low used named at fits within =
      names-used cat at fits i j low (λ z. used (sym (within i used) ∙ z)) (subst (λ w. Names i w j) (sym (within i used)) named)
