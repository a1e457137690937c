-- Which text of a program is written.
use Rattle.std.specs.Prelude.{ℕ, List}
use Rattle.fast_text.specs.declared.form.Form.{Form}
use Rattle.fast_text.specs.declared.form.Form.TheVariants as form

-- arrays and a function for each phase, a function of a name over the caller's arrays, or the header of that function;
-- or the function that multiplies such vectors place by place, or its header
pub data TextForm : Type 0 where
  with_arrays : TextForm
  named_function : (name : List ℕ) → TextForm
  named_header : (name : List ℕ) → TextForm
  named_product : (name : List ℕ) → TextForm
  named_product_header : (name : List ℕ) → TextForm

abbrev pub text_form : Form → TextForm
text_form form.Arrays = with_arrays
text_form (form.Function name) = named_function name.now
text_form (form.Header name) = named_header name.now
text_form (form.Product name) = named_product name.now
text_form (form.ProductHeader name) = named_product_header name.now
