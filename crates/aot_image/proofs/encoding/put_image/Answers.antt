use Rattle.std.proofs.Common.{◌≡◌, ◌∙◌, List, ℕ, ◌++◌, length, flat_map, ap, rules}
use Rattle.il_model.specs.declared.key.BodyRow.{BodyRow}
use Rattle.il_model.specs.declared.entry.Entry.{Entry}
use Rattle.aot_image.specs.ImageSpelling.{word, head_bytes, body_bytes, entry_bytes, table_bytes}
use Rattle.aot_image.specs.ImageForm.{data_of}
use Rattle.aot_image.proofs.WritingLemmas.{put_whole}
use Rattle.aot_image.proofs.encoding.put_image.Goals as goal

pub returns : goal.returns
returns c =
    let image = c.args.image.now in
    let head : c.put_head.new.out.items ≡ c.args.out.now.items ++ head_bytes (length c.args.text.now) (length image.bodies) (length image.got) (length image.code) =
    search (rules, c.in_ok-put_head.ensures {u = tt}) in
    let text : c.extend_from_slice.new.self.items ≡ c.put_head.new.out.items ++ c.args.text.now = (c.in_ok-extend_from_slice.ensures {u = tt}).items in
    let bodies : c.put_bodies.new.out.items ≡ c.extend_from_slice.new.self.items ++ flat_map body_bytes image.bodies =
    c.in_ok-put_bodies.ensures {u = tt} ∙ ap (λ (rows : List BodyRow). c.extend_from_slice.new.self.items ++ flat_map body_bytes rows) c.as_slice-bodies.ensures in
    let got : c.put_entries.new.out.items ≡ c.put_bodies.new.out.items ++ flat_map entry_bytes image.got =
    c.in_ok-put_entries.ensures {u = tt} ∙ ap (λ (es : List Entry). c.put_bodies.new.out.items ++ flat_map entry_bytes es) c.as_slice-got.ensures in
    let code : c.put_words.new.out.items ≡ c.put_entries.new.out.items ++ flat_map word image.code =
    c.in_ok-put_words.ensures {u = tt} ∙ ap (λ (ws : List ℕ). c.put_entries.new.out.items ++ flat_map word ws) c.as_slice-code.ensures in
    put_whole c.args.out.now.items _ _ _ _ _ (head_bytes (length c.args.text.now) (length image.bodies) (length image.got) (length image.code)) c.args.text.now (flat_map body_bytes image.bodies)
    (flat_map entry_bytes image.got) (flat_map word image.code) head text bodies got code
    ∙ ap (λ (t : List ℕ). c.args.out.now.items ++ (head_bytes (length t) (length image.bodies) (length image.got) (length image.code) ++ (t ++ table_bytes (data_of image)))) c.requires.text
