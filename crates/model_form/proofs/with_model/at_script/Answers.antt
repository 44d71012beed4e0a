use Rattle.model_form.proofs.AtScript.{begun, not_begun}
use Rattle.model_form.proofs.with_model.at_script.Goals as goal

pub returns-in-Ok-clause-begins : goal.returns-in-Ok-clause-begins
returns-in-Ok-clause-begins g c =
    begun g.F.ModelForm g.B.Machine c.args.form.now c.args.model c.args.number c.args.out.now c.begin.new.out c.new.result c.in-Ok.compiled c.new.ensures c.begin.result c.in-Ok.ensures.compiled c.begin.ensures.begins

pub returns-in_ok-refuse_model_to-in-Err-clause-begins : goal.returns-in_ok-refuse_model_to-in-Err-clause-begins
returns-in_ok-refuse_model_to-in-Err-clause-begins g c =
    not_begun g.F.ModelForm g.B.Machine c.args.form.now c.args.model c.args.number c.args.out.now c.refuse_model_to.new.out c.is_json.result c.is_json.ensures c.in-Err.stop c.in-Err.ensures.refused c.in_ok-refuse_model_to-in-Err.ensures.ok
