pub mod Office
