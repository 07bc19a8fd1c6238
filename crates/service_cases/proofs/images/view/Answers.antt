use Rattle.std.proofs.Common.{◌∙◌, length, sym, ap}
use Rattle.std.specs.List.{list_all}
use Rattle.aot_image.specs.ImageForm as form
use Rattle.service_cases.specs.Served.{has_frame, has_few}
use Rattle.service_cases.proofs.CountLemmas.{framed, all_counted}
use Rattle.service_cases.proofs.images.view.Goals as goal

pub returns : goal.returns
returns c =
    let rows = c.as_slice.ensures in
    let frames = c.have_frames.ensures in
    let tested = c.if-not-have_frames.false in
    let methods = c.as_slice-methods.ensures in
    let same = c.if-frames-methods.false in
    let few = c.if-not-have_few.false in
    let few_is = c.have_few.ensures in
    let four = c.if-not-are_four.false in
    let four_is = c.are_four.ensures in
    record {
      catalogue = c.images_have_catalogues.ensures (form.data_of c.args.image.now) c.requires;
      bodies = framed c.args.image.now.bodies (ap (list_all has_frame) (sym rows) ∙ sym frames ∙ tested);
      counts = λ number m is body. all_counted c.args.image.now.program.program.methods c.args.frames.now (ap (list_all has_few) (sym methods) ∙ sym few_is ∙ few) (sym four_is ∙ four) (same ∙ ap length methods) number m is;
    }
